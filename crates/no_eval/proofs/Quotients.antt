-- The quotient of two signed readings is a number of 64 bits, but for the least by -1.
use Rattle.std.proofs.Common.{◌≡◌, ℕ, zero, suc, ◌-◌, ◌*◌, ◌/◌, ◌^◌, ◌<◌, ◌≤◌, ap, ◌∙◌, arith, false, ℤ, pos, negsuc, neg_ℤ, FitsSigned, w64}
use Rattle.std.specs.Prelude.{int_div}
use Rattle.std.specs.Int.Signed.{mag}
use Rattle.std.proofs.lemmas.Int.{ints}
use Rattle.std.proofs.lemmas.Bool.Decides.{nat_tests}
use Rattle.std.proofs.lemmas.Nat.{div_below, pow-add}
use Rattle.std.proofs.Math.Nat.{div-le_self}
use Rattle.std.proofs.Math.Pow.{pow_mono}
use Rattle.no_eval.specs.Numbers.{signed}
use Rattle.no_eval.specs.Binary.{is_overflow}

mag-neg_le : (r n : ℕ) → r ≤ suc n → mag (neg_ℤ (pos r)) ≤ n
mag-neg_le zero n h = omega arith
mag-neg_le (suc r) n h = omega arith

-- a divisor of 2 or more halves
halved : (n m : ℕ) → n < 2 ^ 63 → suc n / suc (suc m) < 2 ^ 63
halved n m h = div_below (suc n) (suc (suc m)) (2 ^ 63) (omega arith) (omega arith)

-- a number above half of 2 ^ w, read as signed
not_least : (w a b n : ℕ) → 0 < w → w ≤ 64 → a < 2 ^ w → b < 2 ^ w → negsuc n ≡ signed w a → negsuc zero ≡ signed w b → false ≡ is_overflow w a b → n < 2 ^ 63 - 1
not_least w a b n some most left right x y other =
    let half : 2 ^ w ≡ 2 ^ (w - 1) * 2 ^ 1 = ap (λ (k : ℕ). 2 ^ k) (omega arith) ∙ pow-add 2 (w - 1) 1 in
    let few : 2 ^ (w - 1) ≤ 2 ^ 63 = pow_mono {i = w - 1} {j = 63} (omega arith) in
    grind (arith, ints, nat_tests)

pub quotient_fits : (w a b : ℕ) (x y : ℤ) → 0 < w → w ≤ 64 → a < 2 ^ w → b < 2 ^ w → x ≡ signed w a → y ≡ signed w b → false ≡ is_overflow w a b → FitsSigned w64 x → FitsSigned w64 (int_div x y)
quotient_fits w a b (pos n) (pos m) some most left right x y other fits = record { sfits = omega (arith, div-le_self n m, fits.sfits) }
quotient_fits w a b (pos n) (negsuc m) some most left right x y other fits = record { sfits = omega (arith, mag-neg_le (n / suc m) n, div-le_self n (suc m), fits.sfits) }
quotient_fits w a b (negsuc n) (pos m) some most left right x y other fits = record { sfits = omega (arith, mag-neg_le (suc n / m) n, div-le_self (suc n) m, fits.sfits) }
quotient_fits w a b (negsuc n) (negsuc zero) some most left right x y other fits = record { sfits = omega (arith, div-le_self (suc n) 1, not_least w a b n some most left right x y other) }
quotient_fits w a b (negsuc n) (negsuc (suc m)) some most left right x y other fits = record { sfits = halved n m fits.sfits }
