-- Numbers of 4 and 8 bytes that stand in a list of bytes.
use Rattle.std.proofs.Common.{◌≡◌, ℕ, zero, suc, ◌+◌, ◌*◌, ◌^◌, ◌<◌, ◌≤◌, List, [], ◌∷◌, ◌++◌, length, take, drop, refl, sym, ap, ◌∙◌, arith, length-drop, drop-cons, length-take, subst}
use Rattle.std.specs.List.{flat_map}
use Rattle.std.proofs.lemmas.List.{get_or-drop, get_or-take, get_or_past, length-take-le, take-append-drop, drop_all, append-nil}
use Rattle.std.proofs.lemmas.Bool.{cases_lt}
use Rattle.std.proofs.lemmas.Nat.{be_bytes_4, be_bytes_8}
use Rattle.std.proofs.Common.{inl, inr}
use Rattle.no_wire.specs.Messages.{AreBytes, AreNumbers, ArePairs, be32, be64, pair_bytes}
use Rattle.no_wire.specs.Fronts.{at, number_32, number_64}
use Rattle.no_wire.specs.Reading.{numbers_in, pairs_in}

pub bytes_dropped : (n : ℕ) (xs : List ℕ) → AreBytes xs → AreBytes (drop n xs)
bytes_dropped n xs h i = rw get_or-drop (h (n + i))

pub bytes_taken : (n : ℕ) (xs : List ℕ) → AreBytes xs → AreBytes (take n xs)
bytes_taken n xs h i =
    elim (cases_lt i n) [
      | inl lt ↦ rw (get_or-take n xs i 0 lt) (h i)
      | inr le ↦ rw (get_or_past (take n xs) i 0 (omega (arith, length-take n xs))) (omega arith)
    ]

-- a byte and what stands behind it
step : (xs : List ℕ) (i j : ℕ) → i < length xs → j ≡ suc i → drop i xs ≡ at xs i ∷ drop j xs
step xs i j lt e = drop-cons xs i 0 lt ∙ ap (λ (n : ℕ). at xs i ∷ drop n xs) (sym e)

pub four : (xs : List ℕ) (i : ℕ) → i + 4 ≤ length xs → drop i xs ≡ at xs i ∷ at xs (i + 1) ∷ at xs (i + 2) ∷ at xs (i + 3) ∷ drop (i + 4) xs
four xs i le =
    step xs i (i + 1) (omega arith) (omega arith)
    ∙ ap (λ (t : List ℕ). at xs i ∷ t) (step xs (i + 1) (i + 2) (omega arith) (omega arith)
    ∙ ap (λ (t : List ℕ). at xs (i + 1) ∷ t) (step xs (i + 2) (i + 3) (omega arith) (omega arith)
    ∙ ap (λ (t : List ℕ). at xs (i + 2) ∷ t) (step xs (i + 3) (i + 4) (omega arith) (omega arith))))

-- the number at a place, spelled, and what stands behind it
pub word : (xs : List ℕ) (i j : ℕ) → AreBytes xs → j ≡ i + 4 → j ≤ length xs → be32 (number_32 xs i) ++ drop j xs ≡ drop i xs
word xs i j fits e le =
    let cells : List ℕ = at xs i ∷ at xs (i + 1) ∷ at xs (i + 2) ∷ at xs (i + 3) ∷ [] in
    let le4 : i + 4 ≤ length xs = omega arith in
    let all : AreBytes cells = subst AreBytes (ap (take 4) (four xs i le4)) (bytes_taken 4 (drop i xs) (bytes_dropped i xs fits)) in
    ap (λ (t : List ℕ). t ++ drop j xs) (be_bytes_4 cells (number_32 xs i) refl all refl)
    ∙ ap (λ (n : ℕ). cells ++ drop n xs) e
    ∙ sym (four xs i (omega arith))

pub eight : (xs : List ℕ) (i : ℕ) → i + 8 ≤ length xs
    → drop i xs ≡ at xs i ∷ at xs (i + 1) ∷ at xs (i + 2) ∷ at xs (i + 3) ∷ at xs (i + 4) ∷ at xs (i + 5) ∷ at xs (i + 6) ∷ at xs (i + 7) ∷ drop (i + 8) xs
eight xs i le =
    four xs i (omega arith)
    ∙ ap (λ (t : List ℕ). at xs i ∷ at xs (i + 1) ∷ at xs (i + 2) ∷ at xs (i + 3) ∷ t) (step xs (i + 4) (i + 5) (omega arith) (omega arith)
    ∙ ap (λ (t : List ℕ). at xs (i + 4) ∷ t) (step xs (i + 5) (i + 6) (omega arith) (omega arith)
    ∙ ap (λ (t : List ℕ). at xs (i + 5) ∷ t) (step xs (i + 6) (i + 7) (omega arith) (omega arith)
    ∙ ap (λ (t : List ℕ). at xs (i + 6) ∷ t) (step xs (i + 7) (i + 8) (omega arith) (omega arith)))))

pub long_word : (xs : List ℕ) (i j : ℕ) → AreBytes xs → j ≡ i + 8 → j ≤ length xs → be64 (number_64 xs i) ++ drop j xs ≡ drop i xs
long_word xs i j fits e le =
    let cells : List ℕ = at xs i ∷ at xs (i + 1) ∷ at xs (i + 2) ∷ at xs (i + 3) ∷ at xs (i + 4) ∷ at xs (i + 5) ∷ at xs (i + 6) ∷ at xs (i + 7) ∷ [] in
    let le8 : i + 8 ≤ length xs = omega arith in
    let all : AreBytes cells = subst AreBytes (ap (take 8) (eight xs i le8)) (bytes_taken 8 (drop i xs) (bytes_dropped i xs fits)) in
    ap (λ (t : List ℕ). t ++ drop j xs) (be_bytes_8 cells (number_64 xs i) refl all refl)
    ∙ ap (λ (n : ℕ). cells ++ drop n xs) e
    ∙ sym (eight xs i le8)

pub byte_then : (xs : List ℕ) (i j : ℕ) → j ≡ suc i → i < length xs → at xs i ∷ drop j xs ≡ drop i xs
byte_then xs i j e lt = sym (step xs i j lt e)

pub below_32 : (xs : List ℕ) (i : ℕ) → AreBytes xs → number_32 xs i < 2 ^ 32
below_32 xs i fits = omega (arith, fits i, fits (i + 1), fits (i + 2), fits (i + 3))

pub below_64 : (xs : List ℕ) (i : ℕ) → AreBytes xs → number_64 xs i < 2 ^ 64
below_64 xs i fits = omega (arith, fits i, fits (i + 1), fits (i + 2), fits (i + 3), fits (i + 4), fits (i + 5), fits (i + 6), fits (i + 7))

-- ---- lists of numbers and pairs

-- a first part of 8 bytes, and the rest
first_eight : (xs : List ℕ) (spelled : List ℕ) (more : List ℕ) → spelled ≡ take 8 xs → more ≡ drop 8 xs → spelled ++ more ≡ xs
first_eight xs spelled more e f = rw (e, f) (take-append-drop 8 xs)

pub numbers_spelled : (count : ℕ) (xs : List ℕ) → AreBytes xs → length xs ≡ 8 * count → flat_map be64 (numbers_in count xs) ≡ xs
numbers_spelled zero [] fits len = refl
numbers_spelled zero (x ∷ xs) fits len = absurd (omega arith)
numbers_spelled (suc count) xs fits len =
    let t = length-take-le 8 xs (omega arith) in
    let whole : drop 8 (take 8 xs) ≡ [] = drop_all 8 (take 8 xs) (omega (arith, t)) in
    let w = long_word (take 8 xs) 0 8 (bytes_taken 8 xs fits) refl (omega (arith, t)) in
    let front : be64 (number_64 (take 8 xs) 0) ≡ take 8 xs = sym (append-nil (be64 (number_64 (take 8 xs) 0))) ∙ ap (λ (r : List ℕ). be64 (number_64 (take 8 xs) 0) ++ r) (sym whole) ∙ w in
    first_eight xs (be64 (number_64 (take 8 xs) 0)) (flat_map be64 (numbers_in count (drop 8 xs))) front
    (numbers_spelled count (drop 8 xs) (bytes_dropped 8 xs fits) (omega (arith, len, length-drop 8 xs)))

pub pairs_spelled : (count : ℕ) (xs : List ℕ) → AreBytes xs → length xs ≡ 8 * count → flat_map pair_bytes (pairs_in count xs) ≡ xs
pairs_spelled zero [] fits len = refl
pairs_spelled zero (x ∷ xs) fits len = absurd (omega arith)
pairs_spelled (suc count) xs fits len =
    let t = length-take-le 8 xs (omega arith) in
    let g = take 8 xs in
    let whole : drop 8 g ≡ [] = drop_all 8 g (omega (arith, t)) in
    let fits_g = bytes_taken 8 xs fits in
    let first = word g 0 4 fits_g refl (omega (arith, t)) in
    let second = word g 4 8 fits_g refl (omega (arith, t)) in
    let last : be32 (number_32 g 4) ≡ drop 4 g = sym (append-nil (be32 (number_32 g 4))) ∙ ap (λ (r : List ℕ). be32 (number_32 g 4) ++ r) (sym whole) ∙ second in
    let front : pair_bytes (number_32 g 0, number_32 g 4) ≡ take 8 xs = ap (λ (r : List ℕ). be32 (number_32 g 0) ++ r) last ∙ first in
    first_eight xs (pair_bytes (number_32 g 0, number_32 g 4)) (flat_map pair_bytes (pairs_in count (drop 8 xs))) front
    (pairs_spelled count (drop 8 xs) (bytes_dropped 8 xs fits) (omega (arith, len, length-drop 8 xs)))

pub numbers_fit : (count : ℕ) (xs : List ℕ) → AreBytes xs → AreNumbers (numbers_in count xs)
numbers_fit zero xs fits = tt
numbers_fit (suc count) xs fits = (below_64 (take 8 xs) 0 (bytes_taken 8 xs fits), numbers_fit count (drop 8 xs) (bytes_dropped 8 xs fits))

pub pairs_fit : (count : ℕ) (xs : List ℕ) → AreBytes xs → ArePairs (pairs_in count xs)
pairs_fit zero xs fits = tt
pairs_fit (suc count) xs fits =
    (below_32 (take 8 xs) 0 (bytes_taken 8 xs fits), below_32 (take 8 xs) 4 (bytes_taken 8 xs fits), pairs_fit count (drop 8 xs) (bytes_dropped 8 xs fits))

pub numbers_count : (count : ℕ) (xs : List ℕ) → length (numbers_in count xs) ≡ count
numbers_count zero xs = refl
numbers_count (suc count) xs = ap suc (numbers_count count (drop 8 xs))

pub pairs_count : (count : ℕ) (xs : List ℕ) → length (pairs_in count xs) ≡ count
pairs_count zero xs = refl
pairs_count (suc count) xs = ap suc (pairs_count count (drop 8 xs))
