-- What addresses and numbers do to the scan.
use Rattle.std.proofs.Common.{◌≡◌, ℕ, Bool, true, false, ◌&&◌, ◌||◌, ◌==◌, ◌⊎◌, inl, inr, List, [], ◌∷◌, ◌++◌, drop, bytes_eq, codes, if◌then◌else◌, Result, Ok, Err, is_ok, refl, sym, ap, subst, ◌∙◌, append-nil}
use Rattle.no_lex.specs.declared.token.Token.{Token}
use Rattle.no_lex.specs.declared.token.TokenKind.{TokenKind}
use Rattle.no_lex.specs.declared.token.TokenKind.TheVariants as kind
use Rattle.no_ir.specs.declared.constant.Symbol.{Symbol}
use Rattle.no_read_rules.specs.declared.fault.Flaw.{Flaw}
use Rattle.no_read_rules.specs.declared.fault.Flaw.TheVariants.{Syntax}
use Rattle.no_read_rules.specs.Lists.{more_item}
use Rattle.no_read_rules.specs.Repeated.{repeat}
use Rattle.no_read_rules.specs.Rules.{plain}
use Rattle.no_read_rules.specs.Scope.{Meaning}
use Rattle.no_read_rules.specs.Spelled.{spelled, is_kind, is_word, a_word, a_sign}
use Rattle.no_read_rules.specs.Types.{word_type, a_type}
use Rattle.no_read_rules.specs.Unescaped.{name_of}
use Rattle.no_read_constants.specs.declared.places.PlaceHead.{PlaceHead}
use Rattle.no_read_constants.specs.declared.places.PlaceHead.TheVariants.{Bare, Gep}
use Rattle.no_eval.specs.Numbers.{signed}
use Rattle.no_read_constants.specs.Places.{symbol_of, symbol_named, int_width, width_of, truth_at, number_by, number_at, is_flag, an_index, indices, gep_parts, bare_or, place_head, after_place_head, a_place}
use Rattle.no_read_symbols.specs.declared.standing.Bracket.TheVariants as bracket
use Rattle.no_read_names.proofs.Marks.{IsSo, from_flaw, where_true, word_so, token_so, word_token, a_word_token, integer_so, no_bracket}
use Rattle.no_read_names.proofs.RuleMoves.{Runs, AllAt, plain_at, done_runs, then_at, then_runs, behind_runs, repeat_runs, more_item_runs, anywhere, below, word_runs, sign_runs, opens_round, round_closing}
use Rattle.no_read_names.proofs.Spots.{Spot, Round, flat, deep, Moves, moves_then, moves_anywhere, other_moves, deep_moves}
use Rattle.no_read_names.proofs.Types.{type_runs}

-- inside the parentheses of what stands at the outer level or anywhere
abbrev pub curved : Spot
curved = Round (λ d. d)

-- ---- words and numbers

three_words : (a p q r : Bool) → ((a && p) || (a && q) || (a && r)) ≡ true → (a ≡ true) × ((p || q || r) ≡ true)
three_words true p q r e = (refl, e)
three_words false p q r e = absurd cc

pub flag_moves : (text : List ℕ) (t : Token) → is_flag text t ≡ true → Moves text flat flat (t ∷ [])
flag_moves text t e =
    let k = three_words (is_kind kind.Word t) (bytes_eq (spelled text t) (codes "inbounds")) (bytes_eq (spelled text t) (codes "nusw")) (bytes_eq (spelled text t) (codes "nuw")) e in
    other_moves text t (word_token text t (λ w. bytes_eq w (codes "inbounds") || bytes_eq w (codes "nusw") || bytes_eq w (codes "nuw")) refl refl k.0 k.1)

pub width_moves : (text : List ℕ) (w : ℕ) (t : Token) → width_of text t ≡ Ok w → Moves text flat flat (t ∷ [])
width_moves text w t e =
    let k = where_true (is_kind kind.Word t) (int_width (word_type (spelled text t))) w e in
    other_moves text t (word_token text t (λ x. is_ok (int_width (word_type x))) refl refl k.0 (ap is_ok k.1))

pub no_truth : (b : Bool) → is_ok {T = ℕ} {E = Flaw} (if b && false then Ok 1 else (if b && false then Ok 0 else Err Syntax)) ≡ false
no_truth true = refl
no_truth false = refl

number_so : (w : ℕ) (k : TokenKind) (x : List ℕ) (n : ℕ) → number_by w k x ≡ Ok n → IsSo k x bracket.Other
number_so w kind.Word x n e = word_so (λ y. is_ok (truth_at w y)) x (no_truth (w == 1)) (no_truth (w == 1)) (ap is_ok e)
number_so w kind.Integer x n e = integer_so x
number_so w kind.Global x n e = absurd cc
number_so w kind.Local x n e = absurd cc
number_so w kind.Group x n e = absurd cc
number_so w kind.Meta x n e = absurd cc
number_so w kind.Quoted x n e = absurd cc
number_so w kind.CMark x n e = absurd cc
number_so w kind.Sign x n e = absurd cc
number_so w kind.Label x n e = absurd cc

pub number_moves : (text : List ℕ) (w n : ℕ) (t : Token) → number_at text w t ≡ Ok n → Moves text flat flat (t ∷ [])
number_moves text w n t e = other_moves text t (token_so text t bracket.Other (number_so w t.kind (spelled text t) n e))

-- ---- symbols

symbol_kind : (m : Meaning) (t : Token) (s : Symbol) → symbol_of m t ≡ Ok s → is_kind kind.Global t ≡ true
symbol_kind m t s e = (where_true (is_kind kind.Global t) (Ok (symbol_named m (name_of (drop 1 (spelled m.text t))))) s e).0

pub global_moves : (text : List ℕ) (t : Token) → is_kind kind.Global t ≡ true → Moves text deep deep (t ∷ [])
global_moves text t e = deep_moves text t (no_bracket kind.Global text t (λ x. refl) e)

-- one name of a global or function alone
abbrev pub IsBare : List Token → Type 0
IsBare used = (t : Token) × (used ≡ t ∷ []) × (is_kind kind.Global t ≡ true)

-- tokens that name nothing and leave the brackets, but for such a name alone
abbrev pub IsValue : List ℕ → List Token → Type 0
IsValue text used = Moves text flat flat used ⊎ IsBare used

pub value_moves : (text : List ℕ) (used : List Token) → IsValue text used → Moves text deep deep used
value_moves text used (inl p) = moves_anywhere text deep used p
value_moves text used (inr b) = subst (Moves text deep deep) (sym b.1) (global_moves text b.0 b.2)

pub value_then : (text : List ℕ) (u v : List Token) → IsValue text u → v ≡ [] → IsValue text (u ++ v)
value_then text u v i e = subst (IsValue text) (sym (ap (λ (l : List Token). u ++ l) e ∙ append-nil u)) i

-- ---- places

module _ (m : Meaning) where
  index_runs : Runs m.text flat flat (an_index m)
  unfolding an_index
  index_runs = then_runs m.text flat flat flat (plain (width_of m.text)) _ (plain_at (λ _ used. Moves m.text flat flat used) (width_of m.text) (λ w t e. width_moves m.text w t e))
      (λ width. then_runs m.text flat flat flat (plain (number_at m.text width)) _ (plain_at (λ _ used. Moves m.text flat flat used) (number_at m.text width) (λ n t e. number_moves m.text width n t e))
      (λ number. done_runs m.text flat (signed width number)))

  indices_run : Runs m.text curved flat (indices m)
  unfolding indices
  indices_run = then_runs m.text curved curved flat (an_index m) _ (anywhere m.text curved (an_index m) index_runs)
      (λ first. then_runs m.text curved flat flat (repeat (more_item m.text (codes ")") (an_index m))) _
      (repeat_runs m.text curved flat (more_item m.text (codes ")") (an_index m)) (more_item_runs m.text curved flat (codes ")") (round_closing m.text (λ d. d)) (an_index m) (anywhere m.text curved (an_index m) index_runs)))
      (λ others. done_runs m.text flat (first ∷ others)))

  symbol_runs : Runs {S = Unit {0}} m.text deep deep (plain (symbol_of m))
  symbol_runs = plain_at (λ _ used. Moves m.text deep deep used) (symbol_of m) (λ s t e. global_moves m.text t (symbol_kind m t s e))

  module _ (depth : ℕ) where
    gep_runs : Runs m.text flat flat (gep_parts m depth)
    unfolding gep_parts
    gep_runs = then_runs m.text flat curved flat (a_sign m.text (codes "(")) _ (opens_round m.text (λ d. d))
        (λ _. then_runs m.text curved curved flat (a_type m depth) _ (anywhere m.text curved (a_type m depth) (type_runs m depth))
        (λ base. then_runs m.text curved curved flat (a_sign m.text (codes ",")) _ (anywhere m.text curved (a_sign m.text (codes ",")) (sign_runs m.text (codes ",") refl))
        (λ _. then_runs m.text curved curved flat (a_word m.text (codes "ptr")) _ (anywhere m.text curved (a_word m.text (codes "ptr")) (word_runs m.text (codes "ptr") refl refl))
        (λ _. then_runs m.text curved curved flat (plain (symbol_of m)) _ (below m.text curved (plain (symbol_of m)) symbol_runs)
        (λ symbol. then_runs m.text curved curved flat (a_sign m.text (codes ",")) _ (anywhere m.text curved (a_sign m.text (codes ",")) (sign_runs m.text (codes ",") refl))
        (λ _. then_runs m.text curved flat flat (indices m) _ indices_run
        (λ steps. done_runs m.text flat (record { symbol = symbol; base = base; indices = steps }))))))))

    -- how a place begins
    abbrev Begun : PlaceHead → List Token → Type 0
    Begun (Bare symbol) used = IsBare used
    Begun Gep used = Moves m.text flat flat used

    head_begins : (h : PlaceHead) (t : Token) → place_head m t ≡ Ok h → Begun h (t ∷ [])
    head_begins h t e = go (symbol_of m t) (is_word m.text (codes "getelementptr") t) refl refl e
      where
        go : (r : Result Symbol Flaw) (g : Bool) → symbol_of m t ≡ r → is_word m.text (codes "getelementptr") t ≡ g → bare_or r g ≡ Ok h → Begun h (t ∷ [])
        go (Ok s) g p q x = subst (λ (k : PlaceHead). Begun k (t ∷ [])) (from_flaw (Bare s) h x) (t, refl, symbol_kind m t s p)
        go (Err flaw) true p q x = subst (λ (k : PlaceHead). Begun k (t ∷ [])) (from_flaw Gep h x) (other_moves m.text t (a_word_token m.text (codes "getelementptr") t refl refl q))
        go (Err flaw) false p q x = absurd cc

    abbrev Continued : PlaceHead → List Token → Type 0
    Continued (Bare symbol) used = used ≡ []
    Continued Gep used = Moves m.text flat flat used

    continues : (h : PlaceHead) → AllAt (λ _ used. Continued h used) (after_place_head m depth h)
    continues (Bare symbol) = λ s t used x k. k.0
    continues Gep = behind_runs m.text flat flat (is_flag m.text) (gep_parts m depth) (flag_moves m.text) gep_runs

    whole : (h : PlaceHead) (u v : List Token) → Begun h u → Continued h v → IsValue m.text (u ++ v)
    whole (Bare symbol) u v p q = value_then m.text u v (inr p) q
    whole Gep u v p q = inl (moves_then m.text u v flat flat flat p q)

    pub place_is : AllAt (λ _ used. IsValue m.text used) (a_place m depth)
    unfolding a_place
    place_is = then_at Begun (λ h _ used. Continued h used) (λ _ used. IsValue m.text used) (plain (place_head m)) (after_place_head m depth)
        (plain_at Begun (place_head m) (λ h t e. head_begins h t e)) continues (λ h x u v p q. whole h u v p q)

    pub place_runs : Runs m.text deep deep (a_place m depth)
    place_runs s t used x k = value_moves m.text used (place_is s t used x k)
