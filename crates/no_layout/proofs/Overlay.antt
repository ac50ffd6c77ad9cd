-- Bytes laid over a memory: what is read back, what a write inside them leaves, and that others stay.
use Rattle.std.proofs.Common.{◌≡◌, ℕ, zero, suc, ◌+◌, ◌-◌, ◌<◌, ◌≤◌, ◌⊎◌, inl, inr, List, ◌∷◌, ◌++◌, length, get_or, take, drop, refl, sym, ap, ◌∙◌, arith, if◌then◌else◌, ◌&&◌, nat_le, nat_lt, slice_index}
use mathlib.Core.Path.{fun_ext}
use Rattle.std.proofs.lemmas.Bool.{cases_lt, le-leb, lt-leb, lt-ltb, le-ltb}
use Rattle.std.proofs.lemmas.List.{length-append, length-take-le, length-drop, get_or-take, get_or-drop, get_or_append_left, get_or-append_right}
use Rattle.std.proofs.Math.Seq.{drop-cons}
use Rattle.no_layout.specs.Memory.{AreZero, read_bytes, splice, written}

pub inside : (f : ℕ → ℕ) (s : ℕ) (xs : List ℕ) (a : ℕ) → s ≤ a → a < s + length xs → written f s xs a ≡ get_or xs (a - s) 0
inside f s xs a low high = rw (le-leb s a low, lt-ltb a (s + length xs) high) refl

pub below : (f : ℕ → ℕ) (s : ℕ) (xs : List ℕ) (a : ℕ) → a < s → written f s xs a ≡ f a
below f s xs a h = rw (lt-leb s a h) refl

pub above : (f : ℕ → ℕ) (s : ℕ) (xs : List ℕ) (a : ℕ) → s + length xs ≤ a → written f s xs a ≡ f a
above f s xs a h =
    let low : s ≤ a = omega arith in
    rw (le-leb s a low, le-ltb a (s + length xs) h) refl

-- ---- reads

pub read_inside : (f : ℕ → ℕ) (s : ℕ) (xs : List ℕ) (at n : ℕ) → s ≤ at → at + n ≤ s + length xs → read_bytes (written f s xs) at n ≡ take n (drop (at - s) xs)
read_inside f s xs at zero low high = refl
read_inside f s xs at (suc n) low high =
    let first = inside f s xs at low (omega arith) in
    let more = read_inside f s xs (at + 1) n (omega arith) (omega arith) in
    let next : at + 1 - s ≡ suc (at - s) = omega arith in
    let here : drop (at - s) xs ≡ get_or xs (at - s) 0 ∷ drop (suc (at - s)) xs = drop-cons xs (at - s) 0 (omega arith) in
    rw (first, more, next, here) refl

pub read_outside : (f : ℕ → ℕ) (s : ℕ) (xs : List ℕ) (at n : ℕ) → (at + n ≤ s) ⊎ (s + length xs ≤ at) → read_bytes (written f s xs) at n ≡ read_bytes f at n
read_outside f s xs at zero apart = refl
read_outside f s xs at (suc n) (inl h) =
    rw (below f s xs at (omega arith), read_outside f s xs (at + 1) n (inl (omega arith))) refl
read_outside f s xs at (suc n) (inr h) =
    rw (above f s xs at h, read_outside f s xs (at + 1) n (inr (omega arith))) refl

-- ---- writes

module _ (xs : List ℕ) (o : ℕ) (bs : List ℕ) (fits : o + length bs ≤ length xs) where
  front_length : length (take o xs) ≡ o
  front_length = length-take-le o xs (omega arith)

  middle_length : length (take o xs ++ bs) ≡ o + length bs
  middle_length = length-append (take o xs) bs ∙ ap (λ (n : ℕ). n + length bs) front_length

  pub length_splice : length (splice xs o bs) ≡ length xs
  length_splice =
      let whole = length-append (take o xs ++ bs) (drop (o + length bs) xs) in
      let rest = length-drop (o + length bs) xs in
      let middle = middle_length in
      omega (arith, whole, rest, middle)

  pub splice_before : (k : ℕ) → k < o → get_or (splice xs o bs) k 0 ≡ get_or xs k 0
  splice_before k lt =
      get_or_append_left (take o xs ++ bs) (drop (o + length bs) xs) 0 k (let m = middle_length in omega (arith, m))
      ∙ get_or_append_left (take o xs) bs 0 k (let m = front_length in omega (arith, m))
      ∙ get_or-take o xs k 0 lt

  pub splice_within : (k : ℕ) → o ≤ k → k < o + length bs → get_or (splice xs o bs) k 0 ≡ get_or bs (k - o) 0
  splice_within k low high =
      get_or_append_left (take o xs ++ bs) (drop (o + length bs) xs) 0 k (let m = middle_length in omega (arith, m))
      ∙ get_or-append_right (take o xs) bs o k 0 front_length low

  pub splice_behind : (k : ℕ) → o + length bs ≤ k → get_or (splice xs o bs) k 0 ≡ get_or xs k 0
  splice_behind k low =
      let place : o + length bs + (k - (o + length bs)) ≡ k = omega arith in
      get_or-append_right (take o xs ++ bs) (drop (o + length bs) xs) (o + length bs) k 0 middle_length low
      ∙ get_or-drop (o + length bs) xs (k - (o + length bs)) 0
      ∙ ap (λ (n : ℕ). get_or xs n 0) place

-- a write inside the bytes that are laid over a memory
module _ (f : ℕ → ℕ) (s : ℕ) (xs : List ℕ) (at : ℕ) (bs : List ℕ) (low : s ≤ at) (high : at + length bs ≤ s + length xs) where
  fits : (at - s) + length bs ≤ length xs
  fits = omega arith

  len : length (splice xs (at - s) bs) ≡ length xs
  len = length_splice xs (at - s) bs fits

  at_place : (a : ℕ) → written f s (splice xs (at - s) bs) a ≡ written (written f s xs) at bs a
  at_place a =
      let l = len in
      let fit = fits in
      elim (cases_lt a s) [
        | inl under ↦
            below f s (splice xs (at - s) bs) a under ∙ sym (below f s xs a under) ∙ sym (below (written f s xs) at bs a (omega arith))
        | inr from ↦ elim (cases_lt a at) [
          | inl before ↦
              inside f s (splice xs (at - s) bs) a from (omega (arith, l))
              ∙ splice_before xs (at - s) bs fit (a - s) (omega arith)
              ∙ sym (inside f s xs a from (omega arith))
              ∙ sym (below (written f s xs) at bs a before)
          | inr on ↦ elim (cases_lt a (at + length bs)) [
            | inl in_it ↦
                let place : a - s - (at - s) ≡ a - at = omega arith in
                inside f s (splice xs (at - s) bs) a from (omega (arith, l))
                ∙ splice_within xs (at - s) bs fit (a - s) (omega arith) (omega arith)
                ∙ ap (λ (n : ℕ). get_or bs n 0) place
                ∙ sym (inside (written f s xs) at bs a on in_it)
            | inr behind ↦ elim (cases_lt a (s + length xs)) [
              | inl still ↦
                  inside f s (splice xs (at - s) bs) a from (omega (arith, l))
                  ∙ splice_behind xs (at - s) bs fit (a - s) (omega arith)
                  ∙ sym (inside f s xs a from still)
                  ∙ sym (above (written f s xs) at bs a behind)
              | inr past ↦
                  above f s (splice xs (at - s) bs) a (omega (arith, l))
                  ∙ sym (above f s xs a past)
                  ∙ sym (above (written f s xs) at bs a behind)
            ]
          ]
        ]
      ]

  pub write_inside : written f s (splice xs (at - s) bs) ≡ written (written f s xs) at bs
  write_inside = fun_ext at_place

-- a write apart from the bytes that are laid over a memory
module _ (f : ℕ → ℕ) (s : ℕ) (ys : List ℕ) (at : ℕ) (bs : List ℕ) (apart : (at + length bs ≤ s) ⊎ (s + length ys ≤ at)) where
  in_both : (a : ℕ) → (s ≤ a) → (a < s + length ys) → (a < at) ⊎ (at + length bs ≤ a)
  in_both a low high = elim apart [ inl h ↦ inr (omega arith) | inr h ↦ inl (omega arith) ]

  untouched : (g : ℕ → ℕ) (a : ℕ) → (a < at) ⊎ (at + length bs ≤ a) → written g at bs a ≡ g a
  untouched g a (inl h) = below g at bs a h
  untouched g a (inr h) = above g at bs a h

  over_place : (a : ℕ) → written (written f at bs) s ys a ≡ written (written f s ys) at bs a
  over_place a = elim (cases_lt a s) [
    | inl under ↦ below (written f at bs) s ys a under ∙ same a (below f s ys a under)
    | inr from ↦ elim (cases_lt a (s + length ys)) [
      | inl still ↦
          inside (written f at bs) s ys a from still
          ∙ sym (inside f s ys a from still)
          ∙ sym (untouched (written f s ys) a (in_both a from still))
      | inr past ↦ above (written f at bs) s ys a past ∙ same a (above f s ys a past)
    ]
  ]
    where
      same : (a : ℕ) → written f s ys a ≡ f a → written f at bs a ≡ written (written f s ys) at bs a
      same a e = ap (λ (v : ℕ). if nat_le at a && nat_lt a (at + length bs) then slice_index bs (a - at) else v) (sym e)

  pub write_over : written (written f at bs) s ys ≡ written (written f s ys) at bs
  write_over = fun_ext over_place

-- zeros laid over zeros
pub zeros_over : (s : ℕ) (xs : List ℕ) → AreZero xs → written (λ a. 0) s xs ≡ λ a. 0
zeros_over s xs zero' = fun_ext (λ a. at_zero a)
  where
    at_zero : (a : ℕ) → written (λ b. 0) s xs a ≡ 0
    at_zero a = elim (cases_lt a s) [
      | inl under ↦ below (λ b. 0) s xs a under
      | inr from ↦ elim (cases_lt a (s + length xs)) [
        | inl still ↦ inside (λ b. 0) s xs a from still ∙ zero' (a - s)
        | inr past ↦ above (λ b. 0) s xs a past
      ]
    ]
