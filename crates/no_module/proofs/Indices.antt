-- Indices that are more than those they are compared with.
use Rattle.std.proofs.Common.{◌≡◌, ◌<◌, ℕ, ℤ, pos, suc, Bool, false, List, [], ◌∷◌, length, map, drop, get_or, refl, ap, ◌∙◌, arith}
use Rattle.std.proofs.Math.Seq.{drop-cons}
use Rattle.std.specs.Ordering.{int_eq}
use Rattle.no_module.specs.SameOperands.{indices_in, same_indices}

some_none : (i : ℤ) (more rest : List ℤ) → length rest < 1 → indices_in (map int_eq (i ∷ more)) rest ≡ false
some_none i more [] h = refl
some_none i more (j ∷ js) h = absurd (omega (arith, h))

pub indices_no_more : (a rest : List ℤ) (i : ℕ) → i < length a → length rest < 1 → same_indices (drop i a) rest ≡ false
indices_no_more a rest i lt h =
    ap (λ (js : List ℤ). same_indices js rest) (drop-cons a i (pos 0) lt) ∙ some_none (get_or a i (pos 0)) (drop (suc i) a) rest h
