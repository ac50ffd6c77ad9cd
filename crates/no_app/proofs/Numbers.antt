-- A number that digits spell is at most what it may be.
use Rattle.std.proofs.Common.{◌≡◌, ℕ, ◌≤◌, Bool, true, false, List, [], ◌∷◌, None, refl, arith}
use Rattle.std.specs.Prelude.{◌+◌, ◌-◌, ◌*◌, ◌&&◌, nat_le, if◌then◌else◌, IfSome}
use Rattle.std.proofs.lemmas.Bool.{leb-true}
use Rattle.no_read_rules.specs.Numbers.{number_from, decimal}

number_within : (most : ℕ) (xs : List ℕ) (sum : ℕ) → sum ≤ most → IfSome (number_from most xs sum) (λ n. n ≤ most)
number_within most [] sum le = le
number_within most (x ∷ xs) sum le =
    by (nat_le 48 x) (nat_le x 57) (nat_le (10 * sum + (x - 48)) most) (λ small. number_within most xs (10 * sum + (x - 48)) (leb-true (10 * sum + (x - 48)) most small))
  where
    by : (a b c : Bool) → (c ≡ true → IfSome (number_from most xs (10 * sum + (x - 48))) (λ n. n ≤ most))
        → IfSome (if a && b && c then number_from most xs (10 * sum + (x - 48)) else None) (λ n. n ≤ most)
    by true true true more = more refl
    by true true false more = tt
    by true false c more = tt
    by false b c more = tt

pub decimal_within : (most : ℕ) (text : List ℕ) → IfSome (decimal most text) (λ n. n ≤ most)
decimal_within most text = number_within most text 0 (omega arith)
