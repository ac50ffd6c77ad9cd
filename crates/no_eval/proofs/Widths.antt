-- What the machine's operations on 64 bits leave in the lowest w bits.
use Rattle.std.proofs.Common.{◌≡◌, ℕ, zero, suc, ◌+◌, ◌-◌, ◌*◌, ◌/◌, ◌%◌, ◌^◌, ◌<◌, ◌≤◌, min, refl, sym, ap, subst, ◌∙◌, arith, bit_and, ℤ, pos, negsuc, of_z, to_z, FitsSigned, w64}
use Rattle.std.proofs.lemmas.Nat.{and_mask, mod-mul-add, pow-add, pow_pos, shr_split, mod_below, div_below}
use Rattle.std.proofs.lemmas.Nat.Bits.{ones_shr}
use Rattle.std.proofs.lemmas.Int.{to_z-of_z}
use Rattle.std.proofs.Math.Pow.{mod-mod-pow}
use Rattle.std.proofs.Math.Nat.{add-mul-mod_self_right}
use Rattle.no_eval.specs.Numbers.{modulo}
use Rattle.no_eval.specs.Binary.{sub_of, shl_of}

-- all ones moved down until w of them are left
pub ones_left : (w : ℕ) → w ≤ 64 → (2 ^ 64 - 1) / 2 ^ (64 - w) ≡ 2 ^ w - 1
ones_left w most = ones_shr 64 (64 - w) (omega arith) ∙ ap (λ (k : ℕ). 2 ^ k - 1) (omega arith)

-- the mask of w ones
pub masked : (n w m : ℕ) → m ≡ 2 ^ w - 1 → bit_and n m ≡ n % 2 ^ w
masked n w m is = ap (bit_and n) is ∙ and_mask n w

-- 2 ^ 64 as a multiple of 2 ^ w
whole : (w : ℕ) → w ≤ 64 → 2 ^ 64 ≡ 2 ^ (64 - w) * 2 ^ w
whole w most = let e : 64 - w + w ≡ 64 = omega arith in ap (λ (k : ℕ). 2 ^ k) (sym e) ∙ pow-add 2 (64 - w) w

-- the lowest w bits of the lowest 64
pub narrowed : (n w : ℕ) → w ≤ 64 → n % 2 ^ 64 % 2 ^ w ≡ n % 2 ^ w
narrowed n w most = let e : 64 - w + w ≡ 64 = omega arith in ap (λ (k : ℕ). n % 2 ^ k % 2 ^ w) (sym e) ∙ mod-mod-pow n (64 - w) w

one_less : (m p : ℕ) → 0 < m → (m - 1) * p + p ≡ m * p
one_less zero p some = absurd (omega arith)
one_less (suc k) p some = let e : suc k - 1 ≡ k = omega arith in rw e (grind arith)

-- a difference modulo 2 ^ 64 and then modulo 2 ^ w
pub less : (a b w : ℕ) → w ≤ 64 → b < 2 ^ w → (a + (2 ^ 64 - b)) % 2 ^ 64 % 2 ^ w ≡ sub_of w a b
less a b w most within =
    let split : a + (2 ^ 64 - b) ≡ (a + 2 ^ w - b) + (2 ^ (64 - w) - 1) * 2 ^ w =
    omega (arith, whole w most, one_less (2 ^ (64 - w)) (2 ^ w) (pow_pos (64 - w))) in
    narrowed (a + (2 ^ 64 - b)) w most ∙ ap (λ (n : ℕ). n % 2 ^ w) split ∙ add-mul-mod_self_right (a + 2 ^ w - b) (2 ^ (64 - w) - 1) (2 ^ w)

-- a left shift by less than the width
pub shifted : (a b w : ℕ) → w ≤ 64 → b < w → a * 2 ^ b % 2 ^ 64 % 2 ^ w ≡ shl_of w a b
shifted a b w most within = let e : min b w ≡ b = omega arith in narrowed (a * 2 ^ b) w most ∙ ap (λ (k : ℕ). a * 2 ^ k % 2 ^ w) (sym e)

-- ones below 2 ^ 64 less n, and then the lowest w bits
turned : (n w : ℕ) → w ≤ 64 → n < 2 ^ 64 → (2 ^ 64 - suc n) % 2 ^ w ≡ 2 ^ w - 1 - n % 2 ^ w
turned n w most within =
    let p = 2 ^ w in
    let q = n / 2 ^ w in
    let r = n % 2 ^ w in
    let below : n % 2 ^ w < 2 ^ w = mod_below n (2 ^ w) (pow_pos w) in
    let parts : n / 2 ^ w * 2 ^ w + n % 2 ^ w ≡ n = shr_split n w in
    let few : n / 2 ^ w < 2 ^ (64 - w) = div_below n (2 ^ w) (2 ^ (64 - w)) (pow_pos w) (subst (λ (k : ℕ). n < k) (whole w most) within) in
    let split : 2 ^ 64 - suc n ≡ (2 ^ (64 - w) - 1 - n / 2 ^ w) * 2 ^ w + (2 ^ w - 1 - n % 2 ^ w) =
    omega (arith, whole w most, counted (2 ^ (64 - w)) (n / 2 ^ w) (2 ^ w) few, below, parts) in
    ap (λ (k : ℕ). k % 2 ^ w) split ∙ mod-mul-add (2 ^ (64 - w) - 1 - n / 2 ^ w) (2 ^ w) (2 ^ w - 1 - n % 2 ^ w) (omega (arith, pow_pos w))
  where
    counted : (m q p : ℕ) → q < m → (m - 1 - q) * p + q * p + p ≡ m * p
    counted m q p few = let e : m ≡ (m - 1 - q) + q + 1 = omega arith in omega (arith, ap (λ (k : ℕ). k * p) e)

-- the lowest w bits of a signed number of 64
pub congruent : (w : ℕ) (z : ℤ) (n : ℕ) → w ≤ 64 → FitsSigned w64 z → n ≡ of_z w64 (to_z w64 (of_z w64 z)) → n % 2 ^ w ≡ modulo w z
congruent w z n most fits is = ap (λ (k : ℕ). k % 2 ^ w) (is ∙ ap (of_z w64) (to_z-of_z w64 z fits)) ∙ by z fits
  where
    by : (z : ℤ) → FitsSigned w64 z → of_z w64 z % 2 ^ w ≡ modulo w z
    by (pos n) fits = refl
    by (negsuc n) fits = turned n w most (omega (arith, fits.sfits))
