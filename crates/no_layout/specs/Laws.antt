-- The laws of byte orders: what is put is got back, and each order is the other one swapped.
use Rattle.std.specs.Prelude.{◌≡◌, ℕ, zero, suc, ◌+◌, ◌-◌, ◌*◌, ◌/◌, ◌%◌, ◌^◌, ◌<◌, List, [], ◌∷◌, ◌++◌, length, reverse}
use Rattle.std.proofs.Common.{refl, sym, ap, ◌∙◌, arith, append-nil, length-append}
use Rattle.std.specs.Int.{byte_at, bytes_high_first, bytes_low_first}
use Rattle.std.specs.List.{All}
use Rattle.std.proofs.lemmas.Grind.{reverse_onto}
use Rattle.std.proofs.lemmas.List.{length-reverse, get_or-reverse}
use Rattle.std.proofs.lemmas.List.Elements.{All-head, All-tail}
use Rattle.std.proofs.Math.Nat.{pow-succ', div-div-eq-div-mul, div-one}
use Rattle.byteorder.specs.Endian.{big_from, little_from}
use Rattle.byteorder.specs.Numbers.{big_from-cons, little_from-cons, big_number-reads_back, little_number-reads_back, length-bytes_high_first, length-bytes_low_first}
use Rattle.no_layout.specs.Orders.{big_of, little_of, swapped}

-- the library `byteorder` reads the number that `big_of` says
pub big_same : (bs : List ℕ) → big_from 0 (length bs) bs ≡ big_of bs
big_same [] = refl
big_same (b ∷ bs) = ap (λ (r : ℕ). b * 256 ^ length bs + r) (big_from-cons 0 (length bs) b bs ∙ big_same bs)

-- the library `byteorder` reads the number that `little_of` says
pub little_same : (bs : List ℕ) → little_from 0 (length bs) bs ≡ little_of bs
little_same [] = refl
little_same (b ∷ bs) = ap (λ (r : ℕ). b + 256 * r) (little_from-cons 0 (length bs) b bs ∙ little_same bs)

-- a number put as n bytes, high byte first, takes n bytes
pub big_length : (n v : ℕ) → length (bytes_high_first n v) ≡ n
big_length n v = length-bytes_high_first n v

-- a number put as n bytes, low byte first, takes n bytes
pub little_length : (n v : ℕ) → length (bytes_low_first 0 n v) ≡ n
little_length n v = length-bytes_low_first 0 n v

-- a number below 256 ^ n that is put as n bytes, high byte first, is got back from them
pub big_gets_put : (n v : ℕ) → v < 256 ^ n → big_of (bytes_high_first n v) ≡ v
big_gets_put n v h =
    let bs = bytes_high_first n v in
    sym (big_same bs) ∙ ap (λ (k : ℕ). big_from 0 k bs) (big_length n v) ∙ ap (big_from 0 n) (sym (append-nil bs)) ∙ big_number-reads_back n v [] h

-- a number below 256 ^ n that is put as n bytes, low byte first, is got back from them
pub little_gets_put : (n v : ℕ) → v < 256 ^ n → little_of (bytes_low_first 0 n v) ≡ v
little_gets_put n v h =
    let bs = bytes_low_first 0 n v in
    sym (little_same bs) ∙ ap (λ (k : ℕ). little_from 0 k bs) (little_length n v) ∙ ap (little_from 0 n) (sym (append-nil bs)) ∙ little_number-reads_back n v [] h

-- ---- the two orders

big_snoc : (bs : List ℕ) (b : ℕ) → big_of (bs ++ b ∷ []) ≡ 256 * big_of bs + b
big_snoc [] b = omega arith
big_snoc (x ∷ bs) b =
    let ih = big_snoc bs b in
    let len : length (bs ++ b ∷ []) ≡ suc (length bs) = omega (arith, length-append bs (b ∷ [])) in
    rw (len, ih, pow-succ' 256 (length bs)) (omega arith)

little_snoc : (bs : List ℕ) (b : ℕ) → little_of (bs ++ b ∷ []) ≡ little_of bs + b * 256 ^ length bs
little_snoc [] b = omega arith
little_snoc (x ∷ bs) b =
    let ih = little_snoc bs b in
    rw (ih, pow-succ' 256 (length bs)) (omega arith)

-- bytes with the low one first have the number that they have backwards with the high one first
pub little_reversed : (bs : List ℕ) → little_of bs ≡ big_of (reverse bs)
little_reversed [] = refl
little_reversed (b ∷ bs) =
    let ih = little_reversed bs in
    rw (reverse_onto bs b [], big_snoc (reverse bs) b) (omega arith)

-- bytes with the high one first have the number that they have backwards with the low one first
pub big_reversed : (bs : List ℕ) → big_of bs ≡ little_of (reverse bs)
big_reversed [] = refl
big_reversed (b ∷ bs) =
    let ih = big_reversed bs in
    let len : length (reverse bs) ≡ length bs = length-reverse bs in
    rw (reverse_onto bs b [], little_snoc (reverse bs) b, len) (omega arith)

-- ---- bytes swapped

byte_at_pow : (k x : ℕ) → byte_at k x ≡ x / 256 ^ k % 256
byte_at_pow zero x = ap (λ (y : ℕ). y % 256) (sym (div-one x))
byte_at_pow (suc k) x = refl

byte_at_shift : (i b r : ℕ) → b < 256 → byte_at (suc i) (b + 256 * r) ≡ byte_at i r
byte_at_shift i b r h =
    let low : (b + 256 * r) / 256 ≡ r = omega arith in
    let down : (b + 256 * r) / 256 ^ suc i ≡ r / 256 ^ i = ap (λ (p : ℕ). (b + 256 * r) / p) (pow-succ' 256 i) ∙ sym (div-div-eq-div-mul (b + 256 * r) 256 (256 ^ i)) ∙ ap (λ (x : ℕ). x / 256 ^ i) low in
    ap (λ (x : ℕ). x % 256) down ∙ sym (byte_at_pow i r)

low_shift : (i n b r : ℕ) → b < 256 → bytes_low_first (suc i) n (b + 256 * r) ≡ bytes_low_first i n r
low_shift i zero b r h = refl
low_shift i (suc n) b r h = rw (byte_at_shift i b r h, low_shift (suc i) n b r h) refl

-- the bytes of the number in some bytes are these bytes
pub little_puts_got : (bs : List ℕ) → All (λ b. b < 256) bs → bytes_low_first 0 (length bs) (little_of bs) ≡ bs
little_puts_got [] h = refl
little_puts_got (b ∷ bs) h =
    let first : b < 256 = All-head (λ x. x < 256) b bs h in
    let low : (b + 256 * little_of bs) % 256 ≡ b = omega arith in
    rw (low, low_shift 0 (length bs) b (little_of bs) first, little_puts_got bs (All-tail (λ x. x < 256) b bs h)) refl

-- the number of bytes with the high one first is the other order's number with its bytes swapped
pub big_swapped : (bs : List ℕ) → All (λ b. b < 256) bs → big_of bs ≡ swapped (length bs) (little_of bs)
big_swapped bs h = ap big_of (sym (little_puts_got bs h))

all_reversed : (bs : List ℕ) → All (λ b. b < 256) bs → All (λ b. b < 256) (reverse bs)
all_reversed bs h k d lt =
    let within : k < length bs = omega (arith, length-reverse bs) in
    rw (get_or-reverse bs k d within) (h (length bs - 1 - k) d (omega arith))

-- the number of bytes with the low one first is the other order's number with its bytes swapped
pub little_swapped : (bs : List ℕ) → All (λ b. b < 256) bs → little_of bs ≡ swapped (length bs) (big_of bs)
little_swapped bs h =
    let back = little_puts_got (reverse bs) (all_reversed bs h) in
    let same : bytes_low_first 0 (length bs) (big_of bs) ≡ reverse bs = rw (big_reversed bs, ← length-reverse bs) back in
    little_reversed bs ∙ ap big_of (sym same)
