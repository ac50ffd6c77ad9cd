-- The front of a spelling.
use Rattle.std.proofs.Common.{◌≡◌, ℕ, suc, zero, List, [], ◌∷◌, length, take, min, refl, ap, ◌∙◌, arith}

pub take_min : (n : ℕ) (xs : List ℕ) → take (min n (length xs)) xs ≡ take n xs
take_min zero xs = rw (let e : min 0 (length xs) ≡ 0 = omega arith in e) refl
take_min (suc n) [] = rw (let e : min (suc n) 0 ≡ 0 = omega arith in e) refl
take_min (suc n) (x ∷ xs) = rw (let e : min (suc n) (suc (length xs)) ≡ suc (min n (length xs)) = omega arith in e) (ap (λ ys. x ∷ ys) (take_min n xs))

pub in_front : (n : ℕ) (xs front : List ℕ) → front ≡ take (min n (length xs)) xs → front ≡ take n xs
in_front n xs front e = e ∙ take_min n xs
