-- Numbers below a power of two.
use Rattle.std.proofs.Common.{arith, ◌≡◌, sym, inl, inr, ℕ, ◌^◌, ◌/◌, ◌<◌, ◌≤◌, true, nat_lt, ◌==◌}
use Rattle.std.proofs.lemmas.Bool.{cases_lt, lt-ltb}
use Rattle.std.proofs.lemmas.Bool.Decides.{nat_tests}
use Rattle.std.proofs.lemmas.Nat.{le-div, pow_pos}
use Rattle.std.proofs.Math.Nat.{div-eq_of_lt}
use Rattle.std.proofs.Math.Pow.{pow_mono}

pub wide_enough : (n w : ℕ) → n < 2 ^ 64 → 64 ≤ w → true ≡ nat_lt n (2 ^ w)
wide_enough n w below wide = let most : 2 ^ 64 ≤ 2 ^ w = pow_mono wide in sym (lt-ltb n (2 ^ w) (omega (arith, most)))

both_fail : (q n p : ℕ) → 1 ≤ q → p ≤ n → (q == 0) ≡ nat_lt n p
both_fail q n p some above = grind (arith, nat_tests)

pub shifted_away : (n w : ℕ) → (n / 2 ^ w == 0) ≡ nat_lt n (2 ^ w)
shifted_away n w = elim (cases_lt n (2 ^ w)) [
  | inl below ↦ let none : n / 2 ^ w ≡ 0 = div-eq_of_lt below in rw none (sym (lt-ltb n (2 ^ w) below))
  | inr above ↦ both_fail (n / 2 ^ w) n (2 ^ w) (le-div 1 n (2 ^ w) (pow_pos w) (omega arith)) above
]
