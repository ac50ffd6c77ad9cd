-- The first pair of each label, as pairs are seen one by one.
use Rattle.std.proofs.Common.{◌≡◌, ◌<◌, ℕ, ◌+◌, Bool, true, false, cond, List, [], ◌∷◌, ◌++◌, length, take, get_or, slice_get, eqb, Option, Some, None, refl, sym, ap, subst, ◌∙◌, inl, inr, arith, if◌then◌else◌}
use Rattle.std.specs.List.{find}
use Rattle.std.specs.Option.{option_or}
use Rattle.std.proofs.lemmas.Bool.{eqb-true}
use Rattle.std.proofs.lemmas.List.{get_or_default, take_more}
use Rattle.std.proofs.lemmas.List.Folds.{find-append}
use Rattle.std.proofs.lemmas.Option.{slice_get_cases, slice_get_read}
use Rattle.no_ir.specs.declared.instruction.Operand.{Operand}
use Rattle.no_verify_structure.specs.Edges.{AreFirst, first_pair, pair_at, place_or}
use Rattle.no_verify_structure.specs.Phis.{pair_of}

module _ (pairs : List (Operand × ℕ)) (i : ℕ) (pair : Operand × ℕ) (lt : i < length pairs) (is : pair ≡ get_or pairs i pair) where
  more : take (i + 1) pairs ≡ take i pairs ++ pair ∷ []
  more = take_more pairs i pair lt ∙ ap (λ p. take i pairs ++ p ∷ []) (sym is)

  all : (l : ℕ) → pair_of (take (i + 1) pairs) l ≡ option_or (pair_of (take i pairs) l) (if eqb pair.1 l then Some pair else None)
  all l = ap (λ (ps : List (Operand × ℕ)). pair_of ps l) more ∙ find-append (λ (p : Operand × ℕ). eqb p.1 l) (take i pairs) (pair ∷ [])

  or_none : (o : Option (Operand × ℕ)) → o ≡ option_or o None
  or_none None = refl
  or_none (Some p) = refl

  or_first : (o : Option (Operand × ℕ)) (at : Option ℕ) → pair_at pairs at ≡ o → pair_at pairs (place_or i o at) ≡ option_or o (Some pair)
  or_first None at e = slice_get_read pairs (length pairs) i pair refl lt is
  or_first (Some p) at e = e

  pub seen : (before after : ℕ → Option ℕ) → AreFirst pairs i before → ((l : ℕ) → after l ≡ first_pair pairs i pair.1 (before l) (before pair.1) l)
      → AreFirst pairs (i + 1) after
  seen before after first now l = ap (pair_at pairs) (now l) ∙ by (eqb pair.1 l) refl ∙ sym (all l)
    where
      by : (b : Bool) → eqb pair.1 l ≡ b
          → pair_at pairs (if b then place_or i (pair_at pairs (before pair.1)) (before l) else before l) ≡ option_or (pair_of (take i pairs) l) (if b then Some pair else None)
      by true e =
          let same : pair.1 ≡ l = eqb-true pair.1 l e in
          let at : pair_at pairs (before pair.1) ≡ pair_at pairs (before l) = ap (λ k. pair_at pairs (before k)) same in
          ap (λ o. pair_at pairs (place_or i o (before l))) (at ∙ first l) ∙ or_first (pair_of (take i pairs) l) (before l) (first l)
      by false e = first l ∙ or_none (pair_of (take i pairs) l)

pub seen_by : (pairs : List (Operand × ℕ)) (i : ℕ) (pair : Operand × ℕ) → slice_get pairs i ≡ Some pair → (before after : ℕ → Option ℕ) → AreFirst pairs i before
    → ((l : ℕ) → after l ≡ first_pair pairs i pair.1 (before l) (before pair.1) l) → AreFirst pairs (i + 1) after
seen_by pairs i pair is before after first now = elim ((slice_get_cases pairs i).1) [
  | inl (p, lt, read, at) ↦
      (let same : pair ≡ p = cc in
      let held : pair ≡ get_or pairs i pair = same ∙ sym at ∙ get_or_default pairs i p pair lt in
      seen pairs i pair lt held before after first now)
  | inr (past, none) ↦ absurd cc
]
