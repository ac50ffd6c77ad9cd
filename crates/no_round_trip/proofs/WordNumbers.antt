-- Numbers in decimal are those numbers again.
use Rattle.std.proofs.Common.{◌≡◌, ℕ, suc, ◌+◌, ◌-◌, ◌*◌, ◌^◌, ◌<◌, ◌≤◌, Bool, true, false, List, [], ◌∷◌, ◌==◌, nat_le, nat_lt, decimal, ℤ, pos, negsuc, Some, Ok, if◌then◌else◌, ◌⊎◌, inl, inr, refl, sym, ap, subst, ◌∙◌, arith, pow_mono, le_trans, lt_of_lt_of_le}
use Rattle.std.specs.Fmt.{signed_decimal}
use Rattle.std.specs.Str.Parse.{AllDigits, digits_value_after}
use Rattle.std.specs.Char.{digit_value}
use Rattle.std.proofs.lemmas.Bool.{le-leb, ne_eqb, lt-ltb, le-ltb, ltb-true, ltb-false}
use Rattle.std.proofs.lemmas.Fmt.{decimal_is_IsNumeral}
use Rattle.std.proofs.lemmas.Str.{digit_value_digit}
use Rattle.std.proofs.lemmas.Str.Parse.{digit_from_value}
use Rattle.no_read_rules.specs.Numbers.{number_from, is_negative, digits_of, kept, integer_at, counted, count_of}
use Rattle.no_read_rules.specs.Numbers as numbers
use Rattle.no_eval.specs.Numbers.{signed}
use Rattle.no_print.specs.Names.{fits_i32}

-- ---- digits

grows : (n : ℕ) (ds : List ℕ) → n ≤ digits_value_after 10 n ds
grows n [] = omega arith
grows n (c ∷ cs) = omega (arith, grows (n * 10 + digit_value c) cs)

from_digits : (most : ℕ) (ds : List ℕ) (sum : ℕ) → AllDigits 10 ds → digits_value_after 10 sum ds ≤ most → number_from most ds sum ≡ Some (digits_value_after 10 sum ds)
from_digits most [] sum d h = refl
from_digits most (c ∷ cs) sum d h =
    let range = digit_from_value c d.0 in
    let value : digit_value c + 48 ≡ c = digit_value_digit c range in
    let next : 10 * sum + (c - 48) ≡ sum * 10 + digit_value c = omega arith in
    let bound : sum * 10 + digit_value c ≤ digits_value_after 10 (sum * 10 + digit_value c) cs = grows (sum * 10 + digit_value c) cs in
    let a : nat_le 48 c ≡ true = le-leb 48 c (omega arith) in
    let b : nat_le c 57 ≡ true = le-leb c 57 (omega (arith, range)) in
    let e : nat_le (sum * 10 + digit_value c) most ≡ true = le-leb (sum * 10 + digit_value c) most (omega arith) in
    rw (next, a, b, e) (from_digits most cs (sum * 10 + digit_value c) d.1 h)

pub decimal_again : (most n : ℕ) → n < 2 ^ 64 → n ≤ most → numbers.decimal most (decimal n) ≡ Some n
decimal_again most n h k =
    let d = decimal_is_IsNumeral n h in
    let e : number_from most (decimal n) 0 ≡ Some (digits_value_after 10 0 (decimal n)) = from_digits most (decimal n) 0 d.0.1 (rw d.1 k) in
    e ∙ ap (λ m. Some m) d.1

-- no minus stands in front
no_minus : (ds : List ℕ) → AllDigits 10 ds → (is_negative ds ≡ false) × (digits_of ds ≡ ds)
no_minus [] d = (refl, refl)
no_minus (c ∷ cs) d =
    let range = digit_from_value c d.0 in
    let e : (c == 45) ≡ false = ne_eqb c 45 (λ q. omega (arith, range)) in
    (e, rw e refl)

plain_decimal : (n : ℕ) → n < 2 ^ 64 → (is_negative (decimal n) ≡ false) × (digits_of (decimal n) ≡ decimal n)
plain_decimal n h = no_minus (decimal n) (decimal_is_IsNumeral n h).0.1

-- ---- counts

pub count_again : (n : ℕ) → n < 2 ^ 32 → count_of (decimal n) ≡ Ok n
count_again n h =
    let p = plain_decimal n (omega arith) in
    let d = decimal_again (2 ^ 32 - 1) n (omega arith) (omega arith) in
    rw (p.0, d) refl

-- ---- integers with a sign

-- a number below 2^w with its sign: what the sign bit says, and the number
pub signed_small : (w n : ℕ) → 2 * n < 2 ^ w → signed w n ≡ pos n
signed_small w n h = rw (lt-ltb (2 * n) (2 ^ w) h) refl

pub signed_large : (w n k : ℕ) → 2 ^ w ≤ 2 * n → suc (n + k) ≡ 2 ^ w → signed w n ≡ negsuc k
signed_large w n k h e =
    let less : nat_lt n (suc (n + k)) ≡ true = lt-ltb n (suc (n + k)) (omega arith) in
    let rest : suc (n + k) - suc n ≡ k = omega arith in
    rw (le-ltb (2 * n) (2 ^ w) h, ← e, less, rest) refl

below : (w : ℕ) → w ≤ 64 → 2 ^ w ≤ 2 ^ 64
below w h = pow_mono h

-- digits behind an optional minus, read at a width
read_small : (w n : ℕ) → 0 < w → w ≤ 64 → n < 2 ^ w → integer_at w (decimal n) ≡ Ok n
read_small w n some most h =
    let b = below w most in
    let p = plain_decimal n (omega arith) in
    let d = decimal_again (2 ^ 64 - 1) n (omega arith) (omega arith) in
    rw (lt-ltb 0 w some, le-leb w 64 most, p.0, p.1, d, lt-ltb n (2 ^ w) h) refl

read_large : (w n k : ℕ) → 0 < w → w ≤ 64 → 2 ^ w ≤ 2 * n → suc (n + k) ≡ 2 ^ w → integer_at w (45 ∷ decimal (suc k)) ≡ Ok n
read_large w n k some most h e =
    let b = below w most in
    let d = decimal_again (2 ^ 64 - 1) (suc k) (omega arith) (omega arith) in
    let z : (suc k == 0) ≡ false = ne_eqb (suc k) 0 (λ q. omega arith) in
    let r : 2 ^ w - suc k ≡ n = omega arith in
    rw (lt-ltb 0 w some, le-leb w 64 most, d, le-leb (2 * suc k) (2 ^ w) (omega arith), z, r) refl

-- a number of a type of so many bits, written with its sign, is that number again
pub integer_again : (w n : ℕ) → 0 < w → w ≤ 64 → n < 2 ^ w → integer_at w (signed_decimal (signed w n)) ≡ Ok n
integer_again w n some most h = by (nat_lt (2 * n) (2 ^ w)) refl
  where
    by : (b : Bool) → nat_lt (2 * n) (2 ^ w) ≡ b → integer_at w (signed_decimal (signed w n)) ≡ Ok n
    by true e = ap (λ i. integer_at w (signed_decimal i)) (signed_small w n (ltb-true (2 * n) (2 ^ w) e)) ∙ read_small w n some most h
    by false e =
        let k : ℕ = 2 ^ w - suc n in
        let large : 2 ^ w ≤ 2 * n = ltb-false (2 * n) (2 ^ w) e in
        let is : suc (n + k) ≡ 2 ^ w = omega arith in
        ap (λ i. integer_at w (signed_decimal i)) (signed_large w n k large is) ∙ read_large w n k some most large is

-- ---- indices

-- so many bits hold the number with its sign
abbrev FitsIn : ℕ → ℤ → Type 0
FitsIn v (pos n) = 2 * n < 2 ^ v
FitsIn v (negsuc n) = 2 * suc n ≤ 2 ^ v

fits_signed : (w n : ℕ) → w ≤ 64 → n < 2 ^ w → FitsIn 64 (signed w n)
fits_signed w n most h = by (nat_lt (2 * n) (2 ^ w)) refl
  where
    b : 2 ^ w ≤ 2 ^ 64
    b = below w most

    by : (c : Bool) → nat_lt (2 * n) (2 ^ w) ≡ c → FitsIn 64 (signed w n)
    by true e = let small : 2 * n < 2 ^ w = ltb-true (2 * n) (2 ^ w) e in let goal : 2 * n < 2 ^ 64 = lt_of_lt_of_le small b in subst (FitsIn 64) (sym (signed_small w n small)) goal
    by false e =
        let k : ℕ = 2 ^ w - suc n in
        let large : 2 ^ w ≤ 2 * n = ltb-false (2 * n) (2 ^ w) e in
        let is : suc (n + k) ≡ 2 ^ w = omega arith in
        let fit : 2 * suc k ≤ 2 ^ w = omega arith in
        let goal : 2 * suc k ≤ 2 ^ 64 = le_trans fit b in
        subst (FitsIn 64) (sym (signed_large w n k large is)) goal

-- a number that fits has its bits
record Bits (v : ℕ) (i : ℤ) : Type 0 where
  pub number : ℕ
  pub small : number < 2 ^ v
  pub is : signed v number ≡ i

bits_of : (v : ℕ) (i : ℤ) → FitsIn v i → Bits v i
bits_of v (pos n) h = record { number = n; small = omega arith; is = signed_small v n h }
bits_of v (negsuc k) h = record { number = 2 ^ v - suc k; small = omega arith; is = signed_large v (2 ^ v - suc k) k (omega arith) (omega arith) }

fits_small : (i : ℤ) → fits_i32 i ≡ true → FitsIn 32 i
fits_small (pos n) e = let h : n < 2147483648 = ltb-true n 2147483648 e in omega arith
fits_small (negsuc n) e = let h : n < 2147483648 = ltb-true n 2147483648 e in omega arith

-- an index is read at the width at which it is written
pub record IndexAgain (i : ℤ) : Type 0 where
  pub width : ℕ
  pub written : width ≡ (if fits_i32 i then 32 else 64)
  pub choice : (width ≡ 32) ⊎ (width ≡ 64)
  pub number : ℕ
  pub reads : integer_at width (signed_decimal i) ≡ Ok number
  pub is : signed width number ≡ i

index_at : (v : ℕ) (i : ℤ) → 0 < v → v ≤ 64 → FitsIn v i → v ≡ (if fits_i32 i then 32 else 64) → (v ≡ 32) ⊎ (v ≡ 64) → IndexAgain i
index_at v i some most h e c =
    let b = bits_of v i h in
    record {
      width = v;
      written = e;
      choice = c;
      number = b.number;
      reads = ap (λ j. integer_at v (signed_decimal j)) (sym b.is) ∙ integer_again v b.number some most b.small;
      is = b.is;
    }

pub index_again : (w n : ℕ) (i : ℤ) → w ≤ 64 → n < 2 ^ w → i ≡ signed w n → IndexAgain i
index_again w n i most h is = by (fits_i32 i) refl
  where
    by : (c : Bool) → fits_i32 i ≡ c → IndexAgain i
    by true e = index_at 32 i (omega arith) (omega arith) (fits_small i e) (rw e refl) (inl refl)
    by false e = index_at 64 i (omega arith) (omega arith) (subst (FitsIn 64) (sym is) (fits_signed w n most h)) (rw e refl) (inr refl)
