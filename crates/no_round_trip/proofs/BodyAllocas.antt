-- `alloca` is read again behind its word: a count, an alignment, and what follows an instruction.
use Rattle.std.proofs.Common.{◌≡◌, ℕ, suc, zero, ◌≤◌, Bool, true, false, not, ◌&&◌, ◌==◌, List, ◌++◌, codes, decimal, Option, Some, None, Result, Ok, Err, inl, inr, if◌then◌else◌, refl, sym, ap, subst, ◌∙◌, append_assoc, arith}
use Rattle.no_lex.specs.declared.token.Token.{Token}
use Rattle.no_lex.specs.declared.token.TokenKind.TheVariants as kind
use Rattle.no_ir.specs.declared.function.Role.{Role}
use Rattle.no_ir.specs.declared.function.Role.TheVariants.{Source, Part}
use Rattle.no_ir.specs.declared.types.Ty.{Ty}
use Rattle.no_ir.specs.declared.instruction.Operand.{Operand}
use Rattle.no_ir.specs.declared.instruction.Op.{Op}
use Rattle.no_ir.specs.declared.instruction.Op.TheVariants as op
use Rattle.no_read_rules.specs.declared.fault.Flaw.{Flaw}
use Rattle.no_read_rules.specs.declared.fault.Flaw.TheVariants.{Syntax, Number}
use Rattle.no_read_rules.specs.Numbers as numbers
use Rattle.no_read_rules.specs.Rules.{Rule, if_next}
use Rattle.no_read_rules.specs.Scope.{Meaning}
use Rattle.no_read_rules.specs.Spelled.{spelled, kind_number, is_kind, is_word}
use Rattle.no_read_attributes.specs.Attributes.{is_alignment, aligned, alignment_of}
use Rattle.no_read_registers.specs.declared.locals.Locals.{Locals}
use Rattle.no_read_operations.specs.declared.memory.AllocaEnd.{AllocaEnd}
use Rattle.no_read_operations.specs.Operands.{sized_operand}
use Rattle.no_read_operations.specs.Ends.{is_comma, an_alignment, an_attachment}
use Rattle.no_read_operations.specs.Folded.{AreSteps, folded}
use Rattle.no_read_operations.specs.Memory.{opens_alignment, opens_count, stated_alignment, stated_count, alloca_attachment, count_or_attachment, alloca_step, alloca_start, alloca}
use Rattle.no_print.specs.Pieces.{Piece, spaced, comma, word, integer}
use Rattle.no_print.specs.Constants.{type_at}
use Rattle.no_print.specs.Instructions.{inserted_pieces, alignment_pieces, count_pieces, sized}
use Rattle.no_round_trip.specs.Spells.{AreBytes, Spells, TypesFit, over, spelled_by}
use Rattle.no_round_trip.proofs.RuleFrame.{plain_spells, then_spells}
use Rattle.no_round_trip.proofs.RuleListing.{word_spells}
use Rattle.no_round_trip.proofs.WordNumbers.{decimal_again}
use Rattle.no_round_trip.proofs.RuleOpening.{kept_value}
use Rattle.no_round_trip.proofs.RuleStanding.{Begins, begins, word_tested, kind_tested}
use Rattle.no_round_trip.proofs.TypeHeads.{decimal_small}
use Rattle.no_round_trip.specs.States.{named_by}
use Rattle.no_round_trip.proofs.BodyEnds.{MarkFits, no_mark, attachment_fits, mark_pieces, comma_first, attachment_spells}
use Rattle.no_round_trip.proofs.BodyForms.{FormBack}
use Rattle.no_round_trip.proofs.BodyLists.{comma_back, never}
use Rattle.no_round_trip.proofs.BodyOperands.{word_first, type_back, sized_back}
use Rattle.no_round_trip.proofs.BodyReturning.{Returns, ending, given, lifted, pieces_are, yes_returns, no_returns, then_returns, made_returns, step_returns, no_steps}

-- ---- alignments

-- an alignment that is written in decimal is it again
pub record IsAlignment (n : ℕ) : Type 0 where
  pub most : n ≤ 65536
  pub passes : aligned (Some n) ≡ Ok n

pub alignment_read : (text : List ℕ) (tokens : List Token) (n : ℕ) → (an_alignment text).means tt tokens n tt → IsAlignment n
unfolding an_alignment
alignment_read text tokens n r = by (is_kind kind.Integer token) (kept_value tt (alignment_of text token) n tt r.in_back.value)
  where
    token : Token
    token = r.in_back.token

    fine : (x y : ℕ) → (let o : Result ℕ Flaw = Ok x in o) ≡ Ok y → x ≡ y
    fine x y e = cc

    passed : (v : ℕ) (b : Bool) → (if b then Ok v else Err Number) ≡ Ok n → v ≡ n
    passed v true e = fine v n e
    passed v false e = absurd cc

    of_number : (o : Option ℕ) → numbers.decimal 65536 (spelled text token) ≡ o → aligned o ≡ Ok n → IsAlignment n
    of_number (Some v) is e =
        let same : v ≡ n = passed v (is_alignment v) e in
        record { most = subst (λ k. k ≤ 65536) same (decimal_small 65536 (spelled text token) v is); passes = subst (λ k. aligned (Some k) ≡ Ok n) same e }
    of_number None is e = absurd cc

    by : (b : Bool) → (if b then aligned (numbers.decimal 65536 (spelled text token)) else Err Syntax) ≡ Ok n → IsAlignment n
    by true e = of_number (numbers.decimal 65536 (spelled text token)) refl e
    by false e = absurd cc

abbrev align_pieces : ℕ → List Piece
align_pieces n = word spaced (codes "align") ++ integer spaced (decimal n)

pub alignment_spells : (text : List ℕ) (n : ℕ) → IsAlignment n → Spells text (an_alignment text) tt (align_pieces n) n tt
unfolding an_alignment
alignment_spells text n h =
    let most : n ≤ 65536 = h.most in
    let again : numbers.decimal 65536 (decimal n) ≡ Some n = decimal_again 65536 n (omega arith) most in
    then_spells text _ _ tt tt tt (word spaced (codes "align")) (integer spaced (decimal n)) tt n (word_spells text spaced tt (codes "align") refl)
    (plain_spells {S = Unit {0}} text (λ k bytes. if kind_number k == kind_number kind.Integer then aligned (numbers.decimal 65536 bytes) else Err Syntax) tt
    (record { gap = spaced; kind = kind.Integer; bytes = decimal n }) n (ap aligned again ∙ h.passes))

-- ---- what follows the type

abbrev end_of : Bool → Bool → Option (ℕ × Operand) → Option ℕ → AllocaEnd
end_of c a n l = record { counts = c; aligns = a; count = n; align = l; inserted = false }

-- the end, with an attachment or without
abbrev closed_by : AllocaEnd → Bool → AllocaEnd
closed_by e false = e
closed_by e true = record { counts = false; aligns = false; count = e.count; align = e.align; inserted = true }

module _ (m : Meaning) (text : List ℕ) (bytes : AreBytes m.text) (fit : TypesFit m.types) (last : Locals) (role : Role) where
  abbrev Steps : ℕ → Locals → List Token → AllocaEnd → AllocaEnd → Locals → Type 0
  Steps = AreSteps (is_comma m.text) (alloca_step m role)

  abbrev Rest : AllocaEnd → Rule Locals AllocaEnd
  Rest = folded (is_comma text) (alloca_step (over m text) role)

  -- what the first text had: the same count and alignment, and whether it is marked
  record Same (e all : AllocaEnd) (s t : Locals) : Type 0 where
    pub count : all.count ≡ e.count
    pub align : all.align ≡ e.align
    pub fits : MarkFits role all.inserted
    pub state : t ≡ s

  attachment_value : (e v : AllocaEnd) (s t : Locals) (tokens : List Token) → (alloca_attachment m.text role e).means s tokens v t → MarkFits role e.inserted
      → (b : Bool) × (v ≡ record { counts = false; aligns = false; count = e.count; align = e.align; inserted = b }) × MarkFits role b × (t ≡ s)
  unfolding alloca_attachment
  attachment_value e v s t tokens r h = (r.first, r.in_back.1, attachment_fits m.text role e.inserted r.first r.front r.in_front.0 h, r.in_back.2 ∙ r.in_front.1)

  -- behind an alignment or an attachment there are only attachments
  closed : (n : ℕ) (s t : Locals) (tokens : List Token) (e all : AllocaEnd) → e.counts ≡ false → e.aligns ≡ false → MarkFits role e.inserted → Steps n s tokens e all t → Same e all s t
  unfolding alloca_step
  closed zero s t tokens e all c a h r = record {
    count = ap (λ (x : AllocaEnd). x.count) r.1;
    align = ap (λ (x : AllocaEnd). x.align) r.1;
    fits = subst (λ (x : AllocaEnd). MarkFits role x.inserted) (sym r.1) h;
    state = r.2;
  }
  closed (suc n) s t tokens e all c a h r = by r.first.in_back r.first.in_front.1 (λ c a h. closed n r.between t r.back r.value all c a h r.others)
    where
      attached : (count_or_attachment m role e).means r.first.between r.first.back r.value r.between → r.first.between ≡ s
          → (r.value.counts ≡ false → r.value.aligns ≡ false → MarkFits role r.value.inserted → Same r.value all r.between t) → Same e all s t
      attached (inl k) same more = absurd (never (opens_count e) r.first.back (λ token. ap (λ b. b && not (is_kind kind.Meta token)) c) k.0)
      attached (inr k) same more =
          let x = attachment_value e r.value r.first.between r.between r.first.back k.1 h in
          let is = x.1 in
          let y = more (ap (λ (v : AllocaEnd). v.counts) is) (ap (λ (v : AllocaEnd). v.aligns) is) (subst (λ (v : AllocaEnd). MarkFits role v.inserted) (sym is) x.2) in
          record {
            count = y.count ∙ ap (λ (v : AllocaEnd). v.count) is;
            align = y.align ∙ ap (λ (v : AllocaEnd). v.align) is;
            fits = y.fits;
            state = y.state ∙ x.3 ∙ same;
          }

      by : (if_next (opens_alignment m.text e) (stated_alignment m.text e) (count_or_attachment m role e)).means r.first.between r.first.back r.value r.between → r.first.between ≡ s
          → (r.value.counts ≡ false → r.value.aligns ≡ false → MarkFits role r.value.inserted → Same r.value all r.between t) → Same e all s t
      by (inl k) same more = absurd (never (opens_alignment m.text e) r.first.back (λ token. ap (λ b. b && is_word m.text (codes "align") token) a) k.0)
      by (inr k) same more = attached k.1 same more

  -- ---- how it is spelled

  no_alignment : (e : AllocaEnd) → Begins text (opens_alignment text e) false mark_pieces
  no_alignment e = begins text (opens_alignment text e) false mark_pieces (λ token h. ap (λ b. e.aligns && b) (word_tested text (codes "align") _ token h) ∙ last_false e.aligns)
    where
      last_false : (b : Bool) → (b && false) ≡ false
      last_false true = refl
      last_false false = refl

  no_count : (e : AllocaEnd) → Begins text (opens_count e) false mark_pieces
  no_count e = begins text (opens_count e) false mark_pieces (λ token h. ap (λ b. e.counts && not b) (kind_tested text kind.Meta _ token h) ∙ last_false e.counts)
    where
      last_false : (b : Bool) → (b && false) ≡ false
      last_false true = refl
      last_false false = refl

  marked : (c a : Bool) (n : Option (ℕ × Operand)) (l : Option ℕ) {s : Locals} → Returns text last (alloca_step (over m text) Part (end_of c a n l)) (comma ++ mark_pieces) (closed_by (end_of c a n l) true) s s
  unfolding alloca_step alloca_attachment
  marked c a n l =
      then_returns (comma_back text last refl) (no_returns (no_alignment (end_of c a n l)) (no_returns (no_count (end_of c a n l))
      (made_returns (lifted (an_attachment text Part false) refl (attachment_spells text)))))

mark_back : (m : Meaning) (text : List ℕ) (bytes : AreBytes m.text) (fit : TypesFit m.types) (last : Locals) (role : Role) (c a : Bool) (n : Option (ℕ × Operand)) (l : Option ℕ) (b : Bool) → MarkFits role b → {s : Locals}
    → Returns text last (folded (is_comma text) (alloca_step (over m text) role) (end_of c a n l)) (inserted_pieces b) (closed_by (end_of c a n l) b) s s
mark_back m text bytes fit last role c a n l false h = no_steps (end_of c a n l)
mark_back m text bytes fit last Source c a n l true h = absurd cc
mark_back m text bytes fit last Part c a n l true h = step_returns (comma_first text mark_pieces) (marked m text bytes fit last Part c a n l) (no_steps (closed_by (end_of c a n l) true))

closed_count : (e : AllocaEnd) (b : Bool) → (closed_by e b).count ≡ e.count
closed_count e true = refl
closed_count e false = refl

closed_align : (e : AllocaEnd) (b : Bool) → (closed_by e b).align ≡ e.align
closed_align e true = refl
closed_align e false = refl

closed_mark : (c a : Bool) (n : Option (ℕ × Operand)) (l : Option ℕ) (b : Bool) → (closed_by (end_of c a n l) b).inserted ≡ b
closed_mark c a n l true = refl
closed_mark c a n l false = refl

module _ (m : Meaning) (text : List ℕ) (bytes : AreBytes m.text) (fit : TypesFit m.types) (last : Locals) (role : Role) where
  abbrev After : AllocaEnd → Rule Locals AllocaEnd
  After = folded (is_comma text) (alloca_step (over m text) role)

  abbrev count_shown : Option (ℕ × Operand) → List Piece
  count_shown = count_pieces (spelled_by m) (named_by last)

  record EndBack (e : AllocaEnd) (pieces : List Piece) (all : AllocaEnd) (s t : Locals) : Type 0 where
    pub value : AllocaEnd
    pub count : value.count ≡ all.count
    pub align : value.align ≡ all.align
    pub inserted : value.inserted ≡ all.inserted
    pub back : Returns text last (After e) pieces value s t

  -- nothing but a mark
  mark_alone : (c a : Bool) (n : Option (ℕ × Operand)) (l : Option ℕ) (all : AllocaEnd) (s t : Locals) → Same m text bytes fit last role (end_of c a n l) all s t → EndBack (end_of c a n l) (inserted_pieces all.inserted) all s t
  mark_alone c a n l all s t x = record {
    value = closed_by (end_of c a n l) all.inserted;
    count = closed_count (end_of c a n l) all.inserted ∙ sym x.count;
    align = closed_align (end_of c a n l) all.inserted ∙ sym x.align;
    inserted = closed_mark c a n l all.inserted;
    back = ending x.state (mark_back m text bytes fit last role c a n l all.inserted x.fits);
  }

  align_first : (c : Bool) (n : Option (ℕ × Operand)) (k : ℕ) → Begins text (opens_alignment text (end_of c true n None)) true (align_pieces k)
  align_first c n k = word_first text spaced (codes "align") (codes "align") (integer spaced (decimal k)) true refl

  align_step : (c : Bool) (n : Option (ℕ × Operand)) (k : ℕ) → IsAlignment k → {s : Locals} → Returns text last (alloca_step (over m text) role (end_of c true n None)) (comma ++ align_pieces k) (end_of false false n (Some k)) s s
  unfolding alloca_step stated_alignment
  align_step c n k h = then_returns (comma_back text last refl) (yes_returns (align_first c n k) (made_returns (lifted (an_alignment text) refl (alignment_spells text k h))))

  count_first : (x : ℕ × Operand) → Begins text (opens_count alloca_start) true (sized (spelled_by m) (named_by last) x.0 x.1)
  count_first x = begins text (opens_count alloca_start) true (sized (spelled_by m) (named_by last) x.0 x.1) (λ token h. ap not (kind_tested text kind.Meta _ token h))

  no_align_word : (x : ℕ × Operand) → Begins text (opens_alignment text alloca_start) false (sized (spelled_by m) (named_by last) x.0 x.1)
  no_align_word x = begins text (opens_alignment text alloca_start) false (sized (spelled_by m) (named_by last) x.0 x.1) (λ token h. word_tested text (codes "align") _ token h)

  count_step : (x : ℕ × Operand) {s u : Locals} → Returns text last (sized_operand (over m text)) (sized (spelled_by m) (named_by last) x.0 x.1) x s u
      → Returns text last (alloca_step (over m text) role alloca_start) (comma ++ sized (spelled_by m) (named_by last) x.0 x.1) (end_of false true (Some x) None) s u
  unfolding alloca_step stated_count
  count_step x h = then_returns (comma_back text last refl) (no_returns (no_align_word x) (yes_returns (count_first x) (made_returns h)))

  -- ---- an alignment, or none

  abbrev tail : AllocaEnd → List Piece
  tail all = alignment_pieces all.align ++ inserted_pieces all.inserted

  by_alignment : (c : Bool) (k : Option (ℕ × Operand)) (a : ℕ) → IsAlignment a → (all : AllocaEnd) (s t : Locals) → Same m text bytes fit last role (end_of false false k (Some a)) all s t → EndBack (end_of c true k None) (tail all) all s t
  by_alignment c k a h all s t x =
      let y = mark_alone false false k (Some a) all s t x in
      record {
        value = y.value;
        count = y.count;
        align = y.align;
        inserted = y.inserted;
        back = subst (λ l. Returns text last (After (end_of c true k None)) (alignment_pieces l ++ inserted_pieces all.inserted) y.value s t) (sym x.align)
            (step_returns (comma_first text (align_pieces a)) (align_step c k a h) y.back);
      }

  by_mark : (c : Bool) (k : Option (ℕ × Operand)) (all : AllocaEnd) (s t : Locals) → Same m text bytes fit last role (end_of c true k None) all s t → EndBack (end_of c true k None) (tail all) all s t
  by_mark c k all s t x =
      let y = mark_alone c true k None all s t x in
      subst (λ l. EndBack (end_of c true k None) (alignment_pieces l ++ inserted_pieces all.inserted) all s t) (sym x.align) y

  abbrev Run : ℕ → Locals → List Token → AllocaEnd → AllocaEnd → Locals → Type 0
  Run = Steps m text bytes fit last role

  -- nothing is left
  no_more : (c : Bool) (k : Option (ℕ × Operand)) (all : AllocaEnd) (s t : Locals) → all ≡ end_of c true k None → t ≡ s → Same m text bytes fit last role (end_of c true k None) all s t
  no_more c k all s t is state = record {
    count = ap (λ (x : AllocaEnd). x.count) is;
    align = ap (λ (x : AllocaEnd). x.align) is;
    fits = subst (λ (x : AllocaEnd). MarkFits role x.inserted) (sym is) (no_mark role);
    state = state;
  }

  aligned_case : (c : Bool) (k : Option (ℕ × Operand)) (n : ℕ) (s u t : Locals) (tokens rest : List Token) (v all : AllocaEnd) → (stated_alignment m.text (end_of c true k None)).means s tokens v u → Run n u rest v all t
      → (all.count ≡ k) × EndBack (end_of c true k None) (tail all) all s t
  unfolding stated_alignment
  aligned_case c k n s u t tokens rest v all r others =
      let is = r.in_back.1 in
      let x = closed m text bytes fit last role n u t rest v all (ap (λ (e : AllocaEnd). e.counts) is) (ap (λ (e : AllocaEnd). e.aligns) is) (subst (λ (e : AllocaEnd). MarkFits role e.inserted) (sym is) (no_mark role)) others in
      let y : Same m text bytes fit last role (end_of false false k (Some r.first)) all s t = record {
        count = x.count ∙ ap (λ (e : AllocaEnd). e.count) is;
        align = x.align ∙ ap (λ (e : AllocaEnd). e.align) is;
        fits = x.fits;
        state = x.state ∙ r.in_back.2 ∙ r.in_front.1;
      } in
      (y.count, by_alignment c k r.first (alignment_read m.text r.front r.first r.in_front.0) all s t y)

  marked_case : (c : Bool) (k : Option (ℕ × Operand)) (n : ℕ) (s u t : Locals) (tokens rest : List Token) (v all : AllocaEnd) → (alloca_attachment m.text role (end_of c true k None)).means s tokens v u → Run n u rest v all t
      → (all.count ≡ k) × EndBack (end_of c true k None) (tail all) all s t
  marked_case c k n s u t tokens rest v all r others =
      let z = attachment_value m text bytes fit last role (end_of c true k None) v s u tokens r (no_mark role) in
      let is = z.1 in
      let x = closed m text bytes fit last role n u t rest v all (ap (λ (e : AllocaEnd). e.counts) is) (ap (λ (e : AllocaEnd). e.aligns) is) (subst (λ (e : AllocaEnd). MarkFits role e.inserted) (sym is) z.2) others in
      let y : Same m text bytes fit last role (end_of c true k None) all s t = record {
        count = x.count ∙ ap (λ (e : AllocaEnd). e.count) is;
        align = x.align ∙ ap (λ (e : AllocaEnd). e.align) is;
        fits = x.fits;
        state = x.state ∙ z.3;
      } in
      (y.count, by_mark c k all s t y)

  abbrev Counted : Option (ℕ × Operand) → AllocaEnd → Locals → Locals → Type 0
  Counted k all s t = (all.count ≡ k) × EndBack (end_of false true k None) (tail all) all s t

  -- behind a count
  after_count : (k : Option (ℕ × Operand)) (n : ℕ) (s t : Locals) (tokens : List Token) (all : AllocaEnd) → Run n s tokens (end_of false true k None) all t → Counted k all s t
  unfolding alloca_step
  after_count k zero s t tokens all r = let x = no_more false k all s t r.1 r.2 in (x.count, by_mark false k all s t x)
  after_count k (suc n) s t tokens all r = subst (λ v. Counted k all v t) r.first.in_front.1 (by r.first.in_back)
    where
      by : (if_next (opens_alignment m.text (end_of false true k None)) (stated_alignment m.text (end_of false true k None)) (count_or_attachment m role (end_of false true k None))).means r.first.between r.first.back r.value r.between → Counted k all r.first.between t
      by (inl q) = aligned_case false k n r.first.between r.between t r.first.back r.back r.value all q.1 r.others
      by (inr (e, inl q)) = absurd (never (opens_count (end_of false true k None)) r.first.back (λ token. refl) q.0)
      by (inr (e, inr q)) = marked_case false k n r.first.between r.between t r.first.back r.back r.value all q.1 r.others

  abbrev Started : AllocaEnd → Locals → Locals → Type 0
  Started all s t = EndBack alloca_start (count_shown all.count ++ tail all) all s t

  uncounted : (all : AllocaEnd) (s t : Locals) → (all.count ≡ None) × EndBack alloca_start (tail all) all s t → Started all s t
  uncounted all s t x = subst (λ k. EndBack alloca_start (count_shown k ++ tail all) all s t) (sym x.0) x.1

  counted_case : (n : ℕ) (s u t : Locals) (tokens rest : List Token) (v all : AllocaEnd) → (stated_count m alloca_start).means s tokens v u → Run n u rest v all t → Started all s t
  unfolding stated_count
  counted_case n s u t tokens rest v all r others =
      let is = r.in_back.1 in
      let y = after_count (Some r.first) n u t rest all (subst (λ (e : AllocaEnd). Run n u rest e all t) is others) in
      let z = y.1 in
      record {
        value = z.value;
        count = z.count;
        align = z.align;
        inserted = z.inserted;
        back = subst (λ k. Returns text last (After alloca_start) (count_shown k ++ tail all) z.value s t) (sym y.0)
            (step_returns (comma_first text (sized (spelled_by m) (named_by last) r.first.0 r.first.1)) (count_step r.first (ending r.in_back.2 (sized_back m text bytes fit last r.front r.first r.in_front))) z.back);
      }

  from_start : (n : ℕ) (s t : Locals) (tokens : List Token) (all : AllocaEnd) → Run n s tokens alloca_start all t → Started all s t
  unfolding alloca_step
  from_start zero s t tokens all r = let x = no_more true None all s t r.1 r.2 in uncounted all s t (x.count, by_mark true None all s t x)
  from_start (suc n) s t tokens all r = subst (λ v. Started all v t) r.first.in_front.1 (by r.first.in_back)
    where
      by : (if_next (opens_alignment m.text alloca_start) (stated_alignment m.text alloca_start) (count_or_attachment m role alloca_start)).means r.first.between r.first.back r.value r.between → Started all r.first.between t
      by (inl q) = uncounted all r.first.between t (aligned_case true None n r.first.between r.between t r.first.back r.back r.value all q.1 r.others)
      by (inr (e, inl q)) = counted_case n r.first.between r.between t r.first.back r.back r.value all q.1 r.others
      by (inr (e, inr q)) = uncounted all r.first.between t (marked_case true None n r.first.between r.between t r.first.back r.back r.value all q.1 r.others)

  -- ---- whole forms

  stretched : (a b g i : List Piece) → a ++ (b ++ (g ++ i)) ≡ (a ++ (b ++ g)) ++ i
  stretched a b g i = simp append_assoc

  pub alloca_back : (s t : Locals) (tokens : List Token) (x : Op × Bool) → (alloca m role).means s tokens x t → FormBack m text last (alloca (over m text) role) (codes "alloca") x s t
  unfolding alloca
  alloca_back s t tokens x r =
      let of : Ty = r.first in
      let e = r.in_back in
      let all : AllocaEnd = e.first in
      let y = from_start e.in_front.0 r.between e.between e.front all e.in_front.1 in
      let same : (op.Alloca of y.value.count y.value.align, y.value.inserted) ≡ (op.Alloca of all.count all.align, all.inserted) = λ i. (op.Alloca of (y.count i) (y.align i), y.inserted i) in
      let shown : List Piece = type_at (spelled_by m) spaced of in
      subst (λ x. FormBack m text last (alloca (over m text) role) (codes "alloca") x s t) (sym e.in_back.1) (record {
        pieces = shown ++ (count_shown all.count ++ alignment_pieces all.align);
        are = λ gap. refl;
        back = ending e.in_back.2 (pieces_are (stretched shown (count_shown all.count) (alignment_pieces all.align) (inserted_pieces all.inserted))
            (then_returns (type_back m text bytes fit last spaced r.front of r.in_front)
            (given same (made_returns {g = λ (v : AllocaEnd). let p : Op × Bool = (op.Alloca of v.count v.align, v.inserted) in p} y.back))));
      })
