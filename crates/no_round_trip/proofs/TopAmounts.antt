-- Numbers that were read have bounds, and are read again from their digits.
use Rattle.std.proofs.Common.{◌≡◌, ℕ, ◌+◌, ◌-◌, ◌*◌, ◌<◌, ◌≤◌, ◌^◌, Bool, true, false, ◌&&◌, List, [], ◌∷◌, nat_le, length, decimal, Some, None, if◌then◌else◌, refl, subst, arith}
use Rattle.std.specs.Str.Parse.{AllDigits}
use Rattle.std.proofs.lemmas.Bool.{leb-true}
use Rattle.std.proofs.lemmas.Fmt.{decimal_is_IsNumeral, decimal_nonempty}
use Rattle.std.proofs.lemmas.Str.Parse.{digit_from_value}
use Rattle.no_read_rules.specs.Numbers.{number_from}
use Rattle.no_read_rules.specs.Numbers as numbers
use Rattle.no_read_attributes.specs.Attributes.{address_of}
use Rattle.no_round_trip.specs.Spells.{AreBytes}
use Rattle.no_round_trip.proofs.WordNumbers.{decimal_again}

some_is : {A : Type 0} (a b : A) → Some a ≡ Some b → a ≡ b
some_is a b e = cc

third : (p q r : Bool) → (p && q && r) ≡ true → r ≡ true
third true true true e = refl
third true true false e = absurd cc
third true false r e = absurd cc
third false q r e = absurd cc

-- ---- bounds

pub at_most : (most : ℕ) (xs : List ℕ) (sum n : ℕ) → sum ≤ most → number_from most xs sum ≡ Some n → n ≤ most
at_most most [] sum n h e = subst (λ (k : ℕ). k ≤ most) (some_is sum n e) h
at_most most (x ∷ xs) sum n h e = by (nat_le 48 x && nat_le x 57 && nat_le (10 * sum + (x - 48)) most) refl (λ k. at_most most xs (10 * sum + (x - 48)) n k) e
  where
    by : (b : Bool) → (nat_le 48 x && nat_le x 57 && nat_le (10 * sum + (x - 48)) most) ≡ b → (10 * sum + (x - 48) ≤ most → number_from most xs (10 * sum + (x - 48)) ≡ Some n → n ≤ most)
        → (if b then number_from most xs (10 * sum + (x - 48)) else None) ≡ Some n → n ≤ most
    by true is more e = more (leb-true (10 * sum + (x - 48)) most (third (nat_le 48 x) (nat_le x 57) (nat_le (10 * sum + (x - 48)) most) is)) e
    by false is more e = absurd cc

pub decimal_most : (most : ℕ) (bytes : List ℕ) (n : ℕ) → numbers.decimal most bytes ≡ Some n → n ≤ most
decimal_most most bytes n e = at_most most bytes 0 n (omega arith) e

pub address_most : (bytes : List ℕ) (n : ℕ) → address_of bytes ≡ Some n → n ≤ 4294967295
address_most [] n e = absurd cc
address_most (b ∷ bytes) n e = decimal_most 4294967295 (b ∷ bytes) n e

-- ---- digits

digits_bytes : (ds : List ℕ) → AllDigits 10 ds → AreBytes ds
digits_bytes [] d = tt
digits_bytes (c ∷ cs) d = let range = digit_from_value c d.0 in (omega (arith, range), digits_bytes cs d.1)

pub decimal_bytes : (n : ℕ) → n < 2 ^ 64 → AreBytes (decimal n)
decimal_bytes n h = digits_bytes (decimal n) (decimal_is_IsNumeral n h).0.1

address_some : (bytes : List ℕ) (n : ℕ) → 0 < length bytes → numbers.decimal 4294967295 bytes ≡ Some n → address_of bytes ≡ Some n
address_some [] n h e = absurd (omega (arith, h))
address_some (b ∷ bytes) n h e = e

pub address_again : (n : ℕ) → n ≤ 4294967295 → address_of (decimal n) ≡ Some n
address_again n h =
    let small : n < 2 ^ 64 = omega arith in
    address_some (decimal n) n (decimal_nonempty n small) (decimal_again 4294967295 n small h)
