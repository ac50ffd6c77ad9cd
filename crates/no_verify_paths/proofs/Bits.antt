-- Sets of 64 registers as words: their bits.
use Rattle.std.proofs.Common.{◌≡◌, ℕ, zero, suc, replicate, slice_index, ◌-◌, ◌*◌, ◌/◌, ◌%◌, ◌^◌, ◌<◌, ◌≢◌, ◌&&◌, ◌||◌, ◌==◌, Bool, true, false, nat_eq, min, max, bit_and, bit_or, w64, refl, sym, subst, arith, inl, inr}
use Rattle.std.specs.Int.{bit_at}
use Rattle.std.proofs.lemmas.Nat.Bits.{bit_at_and, bit_at_or, bit_at_set_same, bit_at_set_other, bit_at_ones, bit_at-zero, bit_at-lt, shr_and_one}
use Rattle.std.proofs.lemmas.Bool.Decides.{nat_tests}
use Rattle.std.proofs.lemmas.Bool.{cases_eq}
use Rattle.no_verify_paths.specs.Words.{has}

both_bits : (a b : ℕ) → a < 2 → b < 2 → (min a b == 1) ≡ (a == 1 && b == 1)
both_bits a b p q = grind (arith, nat_tests)

either_bit : (a b : ℕ) → a < 2 → b < 2 → (max a b == 1) ≡ (a == 1 || b == 1)
either_bit a b p q = grind (arith, nat_tests)

pub has_both : (a b i : ℕ) → has (bit_and a b) i ≡ (has a i && has b i)
unfolding has
has_both a b i = rw (bit_at_and a b i) (both_bits (bit_at a i) (bit_at b i) (bit_at-lt a i) (bit_at-lt b i))

pub has_either : (a b i : ℕ) → has (bit_or a b) i ≡ (has a i || has b i)
unfolding has
has_either a b i = rw (bit_at_or a b i) (either_bit (bit_at a i) (bit_at b i) (bit_at-lt a i) (bit_at-lt b i))

pub has_read : (a i : ℕ) → nat_eq (bit_and (a / 2 ^ i) 1) 1 ≡ has a i
unfolding has
has_read a i = rw (shr_and_one a i) refl

or_same : (b : Bool) (k : ℕ) → true ≡ (b || k == k)
or_same true k = refl
or_same false k = grind (arith, nat_tests)

or_other : (b : Bool) (i k : ℕ) → i ≢ k → b ≡ (b || i == k)
or_other true i k n = refl
or_other false i k n = grind (arith, nat_tests)

pub has_with : (a k i : ℕ) → k < 64 → has (bit_or a (1 * 2 ^ k % 2 ^ 64)) i ≡ (has a i || i == k)
unfolding has
has_with a k i lt =
    elim (cases_eq i k) [
      | inl same ↦ subst (λ (j : ℕ). (bit_at (bit_or a (1 * 2 ^ k % 2 ^ 64)) j == 1) ≡ (bit_at a j == 1 || j == k)) (sym same) (rw (bit_at_set_same w64 a k lt) (or_same (bit_at a k == 1) k))
      | inr other ↦ rw (bit_at_set_other w64 a k lt i other) (or_other (bit_at a i == 1) i k other)
    ]

pub has_ones : (i : ℕ) → i < 64 → has (2 ^ 64 - 1) i ≡ true
unfolding has
has_ones i lt = rw (bit_at_ones 64 i lt) refl

pub has_none : (i : ℕ) → has 0 i ≡ false
unfolding has
has_none i = rw (bit_at-zero i) refl

pub has_zeros : (n b i : ℕ) → has (slice_index (replicate n 0) b) i ≡ false
has_zeros zero b i = has_none i
has_zeros (suc n) zero i = has_none i
has_zeros (suc n) (suc b) i = has_zeros n b i
