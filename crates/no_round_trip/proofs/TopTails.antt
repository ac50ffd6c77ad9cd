-- The alignment of a global is read again.
use Rattle.std.proofs.Common.{◌≡◌, ℕ, ◌≤◌, Bool, true, false, not, ◌&&◌, ◌==◌, nat_lt, length, List, [], ◌∷◌, ◌++◌, codes, bytes_eq, decimal, Option, Some, None, Result, Ok, Err, if◌then◌else◌, inl, inr, refl, sym, ap, subst, ◌∙◌, arith}
use Rattle.no_lex.specs.declared.token.Token.{Token}
use Rattle.no_lex.specs.declared.token.TokenKind.{TokenKind}
use Rattle.no_lex.specs.declared.token.TokenKind.TheVariants as kind
use Rattle.no_read_rules.specs.declared.fault.Flaw.{Flaw}
use Rattle.no_read_rules.specs.declared.fault.Flaw.TheVariants.{Syntax, Number}
use Rattle.no_read_rules.specs.Numbers as numbers
use Rattle.no_read_rules.specs.Repeated.{IsRepeated, repeat}
use Rattle.no_read_rules.specs.Rules.{plain, done, ◌>>=◌}
use Rattle.no_read_rules.specs.Spelled.{spelled, kind_number, is_kind}
use Rattle.no_read_attributes.specs.Attributes.{is_alignment, aligned, alignment_of}
use Rattle.no_read_attributes.specs.Words.{is_node}
use Rattle.no_read_toplevel.specs.declared.globals.TailHead.{TailHead}
use Rattle.no_read_toplevel.specs.declared.globals.TailHead.TheVariants.{Align, Section, Attachment}
use Rattle.no_read_toplevel.specs.Globals.{tail_head, after_tail_head, a_tail, is_comma, more_tail, last_of, tails}
use Rattle.no_print.specs.Instructions.{alignment_pieces}
use Rattle.no_print.specs.Pieces.{glued, spaced, word, integer}
use Rattle.no_round_trip.specs.Spells.{Spells}
use Rattle.no_round_trip.proofs.RuleFrame.{plain_spells, done_spells, then_spells, made_spells, yes_spells, no_spells}
use Rattle.no_round_trip.proofs.RuleListing.{sign_begins, repeat_end, repeat_more}
use Rattle.no_round_trip.proofs.WordNumbers.{decimal_again}
use Rattle.no_round_trip.proofs.RuleOpening.{kept_value}
use Rattle.no_round_trip.proofs.RuleStanding.{begins_none}
use Rattle.no_round_trip.proofs.TopAmounts.{decimal_most}
use Rattle.no_round_trip.proofs.TopSteps.{Twice, sign_then}

some_is : {A : Type 0} (a b : A) → Some a ≡ Some b → a ≡ b
some_is a b e = cc

-- ---- what an alignment is that was read

abbrev pub IsAlign : ℕ → Type 0
IsAlign n = (is_alignment n ≡ true) × (n ≤ 65536)

abbrev pub MayAlign : Option ℕ → Type 0
MayAlign None = Unit {0}
MayAlign (Some n) = IsAlign n

abbrev AllMay : List (Option ℕ) → Type 0
AllMay [] = Unit {0}
AllMay (o ∷ all) = MayAlign o × AllMay all

ok_is : (a b : ℕ) → (let r : Result ℕ Flaw = Ok a in r) ≡ Ok b → a ≡ b
ok_is a b e = cc

aligned_is : (o : Option ℕ) (n : ℕ) → ((k : ℕ) → o ≡ Some k → k ≤ 65536) → aligned o ≡ Ok n → IsAlign n
aligned_is None n h e = absurd cc
aligned_is (Some k) n h e = by (is_alignment k) refl e
  where
    by : (b : Bool) → is_alignment k ≡ b → (let r : Result ℕ Flaw = (if b then Ok k else Err Number) in r) ≡ Ok n → IsAlign n
    by true is e = subst IsAlign (ok_is k n e) (is, h k refl)
    by false is e = absurd cc

alignment_is : (text : List ℕ) (token : Token) (n : ℕ) → alignment_of text token ≡ Ok n → IsAlign n
alignment_is text token n e = by (is_kind kind.Integer token) e
  where
    by : (b : Bool) → (let r : Result ℕ Flaw = (if b then aligned (numbers.decimal 65536 (spelled text token)) else Err Syntax) in r) ≡ Ok n → IsAlign n
    by true e = aligned_is (numbers.decimal 65536 (spelled text token)) n (λ k f. decimal_most 65536 (spelled text token) k f) e
    by false e = absurd cc

module _ (text : List ℕ) where
  head_may : (h : TailHead) (tokens : List Token) (o : Option ℕ) → (after_tail_head text h).means tt tokens o tt → MayAlign o
  head_may Align tokens o m = subst MayAlign (sym m.in_back.1) (alignment_is text m.in_front.token m.first (kept_value tt (alignment_of text m.in_front.token) m.first m.between m.in_front.value))
  head_may Section tokens o m = subst MayAlign (sym m.in_back.1) tt
  head_may Attachment tokens o m = subst MayAlign (sym m.in_back.1) tt

  tail_may : (tokens : List Token) (o : Option ℕ) → (a_tail text).means tt tokens o tt → MayAlign o
  unfolding a_tail
  tail_may tokens o m =
      let h = m.in_back in
      let a = h.in_back in
      subst MayAlign (sym a.in_back.1) (head_may h.first a.front a.first a.in_front)

  more_may : (tokens : List Token) (o : Option ℕ) → (more_tail text).means tt tokens (Some o) tt → MayAlign o
  more_may tokens o (inl m) = subst MayAlign (sym (some_is o m.1.first m.1.in_back.1)) (tail_may m.1.front m.1.first m.1.in_front)
  more_may tokens o (inr m) = absurd (let e = m.1.1 in cc)

  all_may : (tokens : List Token) (all : List (Option ℕ)) → IsRepeated (more_tail text) tt tokens all tt → AllMay all
  all_may tokens [] m = tt
  all_may tokens (o ∷ all) m = (more_may m.front o m.item, all_may m.back all m.others)

last_may : (found : Option ℕ) (all : List (Option ℕ)) → MayAlign found → AllMay all → MayAlign (last_of found all)
last_may found [] f h = f
last_may found (None ∷ all) f h = last_may found all f h.1
last_may found (Some n ∷ all) f h = last_may (Some n) all h.0 h.1

tails_may : (text : List ℕ) (tokens : List Token) (align : Option ℕ) → (tails text).means tt tokens align tt → MayAlign align
tails_may text tokens align m = subst MayAlign (sym m.in_back.1) (last_may None m.first tt (all_may text m.front m.first m.in_front))

-- ---- spelled again

module _ (text : List ℕ) where
  abbrev head_by : TokenKind → List ℕ → Result TailHead Flaw
  head_by k bytes =
      if (kind_number k == kind_number kind.Word) && bytes_eq bytes (codes "align") then Ok Align
      else (if (kind_number k == kind_number kind.Word) && bytes_eq bytes (codes "section") then Ok Section
      else (if (kind_number k == kind_number kind.Meta) && (nat_lt 1 (length bytes) && not (is_node bytes)) then Ok Attachment
      else Err Syntax))

  head_spells : Spells {S = Unit {0}} text (plain (tail_head text)) tt (word spaced (codes "align")) Align tt
  head_spells = plain_spells text head_by tt (record { gap = spaced; kind = kind.Word; bytes = codes "align" }) Align refl

  abbrev number_by : TokenKind → List ℕ → Result ℕ Flaw
  number_by k bytes = if kind_number k == kind_number kind.Integer then aligned (numbers.decimal 65536 bytes) else Err Syntax

  number_spells : (n : ℕ) → IsAlign n → Spells {S = Unit {0}} text (plain (alignment_of text)) tt (integer spaced (decimal n)) n tt
  number_spells n h =
      let d = decimal_again 65536 n (omega arith) h.1 in
      let e : aligned (Some n) ≡ Ok n = rw h.0 refl in
      plain_spells text number_by tt (record { gap = spaced; kind = kind.Integer; bytes = decimal n }) n (ap aligned d ∙ e)

  tail_spells : (n : ℕ) → IsAlign n → Spells text (a_tail text) tt (alignment_pieces (Some n)) (Some n) tt
  unfolding a_tail
  tail_spells n h =
      sign_then text glued (codes ",") _ tt tt (word spaced (codes "align") ++ integer spaced (decimal n)) (Some n) refl
      (then_spells text (plain (tail_head text)) _ tt tt tt (word spaced (codes "align")) (integer spaced (decimal n)) Align (Some n) head_spells
      (made_spells text (after_tail_head text Align) (λ align. align) tt tt (integer spaced (decimal n)) (Some n)
      (made_spells text (plain (alignment_of text)) (λ n. Some n) tt tt (integer spaced (decimal n)) n (number_spells n h))))

  none_spells : Spells text (more_tail text) tt [] None tt
  none_spells = no_spells text (is_comma text) (a_tail text >>= λ a. done (Some a)) (done None) tt [] None tt (begins_none text (is_comma text)) (done_spells text tt None)

  some_spells : (n : ℕ) → IsAlign n → Spells text (more_tail text) tt (alignment_pieces (Some n)) (Some (Some n)) tt
  some_spells n h = yes_spells text (is_comma text) (a_tail text >>= λ a. done (Some a)) (done None) tt (alignment_pieces (Some n)) (Some (Some n)) tt
      (sign_begins text glued (codes ",") (codes ",") true (word spaced (codes "align") ++ integer spaced (decimal n)) refl)
      (made_spells text (a_tail text) (λ a. Some a) tt tt (alignment_pieces (Some n)) (Some n) (tail_spells n h))

  tails_spell : (align : Option ℕ) → MayAlign align → Spells text (tails text) tt (alignment_pieces align) align tt
  tails_spell None h = made_spells text (repeat (more_tail text)) (last_of None) tt tt [] [] (repeat_end text (more_tail text) tt tt [] none_spells)
  tails_spell (Some n) h = made_spells text (repeat (more_tail text)) (last_of None) tt tt (alignment_pieces (Some n)) (Some n ∷ [])
      (repeat_more text (more_tail text) tt tt tt (alignment_pieces (Some n)) [] (Some n) [] (some_spells n h) (repeat_end text (more_tail text) tt tt [] none_spells))

pub tails_again : (from text : List ℕ) → Twice text (tails from) (tails text) alignment_pieces
tails_again from text tokens align m = tails_spell text align (tails_may from tokens align m)
