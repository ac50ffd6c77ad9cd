-- Tests along a list that ends too early.
use Rattle.std.proofs.Common.{arith, ◌≡◌, ◌∙◌, refl, sym, ℕ, zero, suc, ◌<◌, Bool, false, List, [], ◌∷◌, length, map, drop}
use Rattle.no_module.specs.Scalars.{each_meets}

at_end : {A X : Type 0} (f : X → A → Bool) (xs : List X) (i : ℕ) → i < length xs → each_meets (map f (drop i xs)) [] ≡ false
at_end f [] i below = absurd (omega arith)
at_end f (x ∷ xs) zero below = refl
at_end f (x ∷ xs) (suc i) below = at_end f xs i (omega arith)

pub meets_no_more : {A X : Type 0} (f : X → A → Bool) (xs : List X) (i : ℕ) (rest : List A) (total : Bool) → i < length xs → length rest < 1 → each_meets (map f (drop i xs)) rest ≡ total → false ≡ total
meets_no_more f xs i [] total below short is = sym (at_end f xs i below) ∙ is
meets_no_more f xs i (a ∷ rest) total below short is = absurd (omega arith)
