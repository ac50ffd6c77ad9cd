-- Bytes of which each is 0.
use Rattle.std.proofs.Common.{◌≡◌, ◌≢◌, ℕ, ◌+◌, ◌==◌, ◌∙◌, inl, inr, Bool, true, false, List, [], ◌∷◌, take, drop, refl, sym, ap, arith}
use Rattle.std.specs.List.{list_all}
use Rattle.std.proofs.lemmas.Bool.{and_parts, cases_Bool, eq-eqb, eqb-true}
use Rattle.std.proofs.lemmas.List.{take-append-drop}
use Rattle.std.proofs.lemmas.List.Folds.{list_all-append}
use Rattle.std.proofs.Math.Seq.{take-add}
use Rattle.no_layout.specs.Orders.{little_of}

little_zero : (bs : List ℕ) → little_of bs ≡ 0 → list_all (λ b. b == 0) bs ≡ true
little_zero [] e = refl
little_zero (b ∷ bs) e =
    let here : b ≡ 0 = omega arith in
    let more : little_of bs ≡ 0 = omega arith in
    rw (eq-eqb b 0 here, little_zero bs more) refl

zero_little : (bs : List ℕ) → list_all (λ b. b == 0) bs ≡ true → little_of bs ≡ 0
zero_little [] e = refl
zero_little (b ∷ bs) e =
    let parts = and_parts (b == 0) (list_all (λ b. b == 0) bs) e in
    let here : b ≡ 0 = eqb-true b 0 parts.0 in
    let more = zero_little bs parts.1 in
    omega (arith, here, more)

-- eight more bytes are 0
pub zeros_more : (xs : List ℕ) (at n : ℕ) → list_all (λ b. b == 0) (take at xs) ≡ true → little_of (take n (drop at xs)) ≡ 0 → list_all (λ b. b == 0) (take (at + n) xs) ≡ true
zeros_more xs at n before zero =
    ap (list_all (λ b. b == 0)) (take-add at n xs) ∙ list_all-append (λ b. b == 0) (take at xs) (take n (drop at xs)) ∙ rw (before, little_zero (take n (drop at xs)) zero) refl

-- some of these bytes are not
pub not_zeros : (xs : List ℕ) (at n : ℕ) → little_of (take n (drop at xs)) ≢ 0 → list_all (λ b. b == 0) xs ≡ false
not_zeros xs at n some = elim (cases_Bool (list_all (λ b. b == 0) xs)) [
  | inl all ↦
      let p : ℕ → Bool = λ b. b == 0 in
      let parts = and_parts (list_all p (take at xs)) (list_all p (drop at xs)) (sym (list_all-append p (take at xs) (drop at xs)) ∙ ap (list_all p) (take-append-drop at xs) ∙ all) in
      let piece = and_parts (list_all p (take n (drop at xs))) (list_all p (drop n (drop at xs))) (sym (list_all-append p (take n (drop at xs)) (drop n (drop at xs))) ∙ ap (list_all p) (take-append-drop n (drop at xs)) ∙ parts.1) in
      absurd (some (zero_little (take n (drop at xs)) piece.0))
  | inr not ↦ not
]
