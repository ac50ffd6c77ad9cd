-- Reads and writes that follow one another.
use Rattle.std.proofs.Common.{◌≡◌, ℕ, zero, suc, ◌+◌, ◌-◌, ◌/◌, ◌<◌, ◌≤◌, inl, inr, Bool, true, false, ◌||◌, ◌&&◌, nat_le, List, [], ◌++◌, length, get_or, take, drop, replicate, refl, sym, ap, ◌∙◌, arith}
use mathlib.Core.Path.{fun_ext}
use Rattle.std.proofs.lemmas.Bool.{cases_lt, le-leb, lt-leb}
use Rattle.std.proofs.lemmas.List.{length-append, get_or_append_left, get_or-append_right, length-drop, length-replicate, length-take-le}
use Rattle.std.proofs.lemmas.Slice.{take-put_mid}
use Rattle.std.proofs.Math.Seq.{take-add}
use borrow.Rule.Slice.PartMut.{put_mid}
use Rattle.no_layout.specs.Memory.{read_bytes, written}
use Rattle.no_layout.specs.Numbers.{marked}
use Rattle.no_layout.proofs.Overlay.{above, below, inside}
use Rattle.no_pages.specs.Marks.{Marks}

pub read_add : (f : ℕ → ℕ) (at m n : ℕ) → read_bytes f at (m + n) ≡ read_bytes f at m ++ read_bytes f (at + m) n
read_add f at zero n =
    let none : 0 + n ≡ n = omega arith in
    let place : at + 0 ≡ at = omega arith in
    rw (none, place) refl
read_add f at (suc m) n =
    let more = read_add f (at + 1) m n in
    let count : suc m + n ≡ suc (m + n) = omega arith in
    let place : at + 1 + m ≡ at + suc m = omega arith in
    rw (count, more, place) refl

module _ (f : ℕ → ℕ) (at : ℕ) (xs ys : List ℕ) where
  each : (a : ℕ) → written (written f at xs) (at + length xs) ys a ≡ written f at (xs ++ ys) a
  each a =
      let len = length-append xs ys in
      elim (cases_lt a at) [
        | inl under ↦ below (written f at xs) (at + length xs) ys a (omega arith) ∙ below f at xs a under ∙ sym (below f at (xs ++ ys) a under)
        | inr from ↦ elim (cases_lt a (at + length xs)) [
          | inl first ↦
              below (written f at xs) (at + length xs) ys a first
              ∙ inside f at xs a from first
              ∙ sym (get_or_append_left xs ys 0 (a - at) (omega arith))
              ∙ sym (inside f at (xs ++ ys) a from (omega (arith, len)))
          | inr later ↦ elim (cases_lt a (at + length xs + length ys)) [
            | inl second ↦
                let place : a - (at + length xs) ≡ a - at - length xs = omega arith in
                inside (written f at xs) (at + length xs) ys a later second
                ∙ ap (λ (k : ℕ). get_or ys k 0) place
                ∙ sym (get_or-append_right xs ys (length xs) (a - at) 0 refl (omega arith))
                ∙ sym (inside f at (xs ++ ys) a from (omega (arith, len)))
            | inr past ↦
                above (written f at xs) (at + length xs) ys a past
                ∙ above f at xs a later
                ∙ sym (above f at (xs ++ ys) a (omega (arith, len)))
          ]
        ]
      ]

  pub write_add : written (written f at xs) (at + length xs) ys ≡ written f at (xs ++ ys)
  write_add = fun_ext each

-- nothing is written
pub write_none : (f : ℕ → ℕ) (at : ℕ) → written f at [] ≡ f
write_none f at = fun_ext (λ a. elim (cases_lt a at) [ inl under ↦ below f at [] a under | inr from ↦ above f at [] a (omega arith) ])

-- ---- marks

or_in : (d x y : Bool) → x ≡ true → y ≡ true → (d || (x && y)) ≡ true
or_in true x y e f = refl
or_in false true true e f = refl
or_in false true false e f = absurd cc
or_in false false y e f = absurd cc

or_below : (d x y : Bool) → x ≡ false → (d || (x && y)) ≡ d
or_below true x y e = refl
or_below false true y e = absurd cc
or_below false false y e = refl

or_above : (d x y : Bool) → y ≡ false → (d || (x && y)) ≡ d
or_above true x y e = refl
or_above false true true e = absurd cc
or_above false true false e = refl
or_above false false y e = refl

or_true : (d e : Bool) → d ≡ true → (d || e) ≡ true
or_true true e h = refl
or_true false e h = absurd cc

module _ (d : ℕ → Bool) (at n p : ℕ) where
  pub in_it : at / 4096 ≤ p → p ≤ (at + n - 1) / 4096 → marked d at n p ≡ true
  in_it low high = or_in (d p) (nat_le (at / 4096) p) (nat_le p ((at + n - 1) / 4096)) (le-leb (at / 4096) p low) (le-leb p ((at + n - 1) / 4096) high)

  pub under_it : p < at / 4096 → marked d at n p ≡ d p
  under_it lt = or_below (d p) (nat_le (at / 4096) p) (nat_le p ((at + n - 1) / 4096)) (lt-leb (at / 4096) p lt)

  pub over_it : (at + n - 1) / 4096 < p → marked d at n p ≡ d p
  over_it lt = or_above (d p) (nat_le (at / 4096) p) (nat_le p ((at + n - 1) / 4096)) (lt-leb p ((at + n - 1) / 4096) lt)

module _ (d : ℕ → Bool) (at m n : ℕ) (some : 0 < m) (more : 0 < n) where
  one : (p : ℕ) → marked (marked d at m) (at + m) n p ≡ marked d at (m + n) p
  one p = elim (cases_lt p (at / 4096)) [
    | inl under ↦ under_it (marked d at m) (at + m) n p (omega arith) ∙ under_it d at m p under ∙ sym (under_it d at (m + n) p under)
    | inr from ↦ elim (cases_lt ((at + m - 1) / 4096) p) [
      | inl later ↦ elim (cases_lt ((at + m + n - 1) / 4096) p) [
        | inl past ↦ over_it (marked d at m) (at + m) n p past ∙ over_it d at m p later ∙ sym (over_it d at (m + n) p (omega arith))
        | inr second ↦ in_it (marked d at m) (at + m) n p (omega arith) second ∙ sym (in_it d at (m + n) p from (omega arith))
      ]
      | inr first ↦ or_true (marked d at m p) (nat_le ((at + m) / 4096) p && nat_le p ((at + m + n - 1) / 4096)) (in_it d at m p from first) ∙ sym (in_it d at (m + n) p from (omega arith))
    ]
  ]

  pub mark_add : marked (marked d at m) (at + m) n ≡ marked d at (m + n)
  mark_add = fun_ext one

pub mark_next : (d0 d1 d2 : ℕ → Bool) (at m n : ℕ) → Marks d0 d1 at m → 0 < n → d2 ≡ marked d1 (at + m) n → Marks d0 d2 at (m + n)
mark_next d0 d1 d2 at zero n marks more e = record {
  some = λ h. e ∙ ap (λ (d : ℕ → Bool). marked d (at + 0) n) (marks.none refl) ∙ same n;
  none = λ h. absurd (omega arith);
}
  where
    same : (n : ℕ) → marked d0 (at + 0) n ≡ marked d0 at (0 + n)
    same n = let e0 : 0 + n ≡ n = omega arith in let e1 : at + 0 ≡ at = omega arith in rw (e0, e1) refl
mark_next d0 d1 d2 at (suc m) n marks more e = record {
  some = λ h. e ∙ ap (λ (d : ℕ → Bool). marked d (at + suc m) n) (marks.some (omega arith)) ∙ mark_add d0 at (suc m) n (omega arith) more;
  none = λ h. absurd (omega arith);
}

-- ---- a piece more

length-read : (f : ℕ → ℕ) (at n : ℕ) → length (read_bytes f at n) ≡ n
length-read f at zero = refl
length-read f at (suc n) = ap suc (length-read f (at + 1) n)

-- how long a piece is
pub piece_length : (d n : ℕ) (xs : List ℕ) → d + n ≤ length xs → length (take (d + n - d) (drop d xs)) ≡ n
piece_length d n xs fits =
    let rest = length-drop d xs in
    length-take-le (d + n - d) (drop d xs) (omega (arith, rest)) ∙ minus
  where
    minus : d + n - d ≡ n
    minus = omega arith

pub read_next : (f : ℕ → ℕ) (at d n : ℕ) (into piece : List ℕ) → d + n ≤ length into → take d into ≡ read_bytes f at d
    → piece ≡ read_bytes f (at + d) (length (take (d + n - d) (drop d into))) → take (d + n) (put_mid d (d + n - d) into piece) ≡ read_bytes f at (d + n)
read_next f at d n into piece fits so_far e =
    let is : piece ≡ read_bytes f (at + d) n = e ∙ ap (read_bytes f (at + d)) (piece_length d n into fits) in
    let len : length piece ≡ n = ap length is ∙ length-read f (at + d) n in
    take-put_mid d (d + n - d) into piece (d + n) (omega arith) (omega arith)
    ∙ (λ j. so_far j ++ is j)
    ∙ sym (read_add f at d n)

pub write_next : (f0 f1 f2 : ℕ → ℕ) (at d n : ℕ) (bs : List ℕ) → d + n ≤ length bs → f1 ≡ written f0 at (take d bs)
    → f2 ≡ written f1 (at + d) (take (d + n - d) (drop d bs)) → f2 ≡ written f0 at (take (d + n) bs)
write_next f0 f1 f2 at d n bs fits so_far e =
    let count : d + n - d ≡ n = omega arith in
    let place : d ≡ length (take d bs) = sym (length-take-le d bs (omega arith)) in
    e
    ∙ (λ j. written (so_far j) (at + place j) (take (count j) (drop d bs)))
    ∙ write_add f0 at (take d bs) (take n (drop d bs))
    ∙ ap (written f0 at) (sym (take-add d n bs))

pub set_next : (f0 f1 f2 : ℕ → ℕ) (at d n v : ℕ) → f1 ≡ written f0 at (replicate d v) → f2 ≡ written f1 (at + d) (replicate n v) → f2 ≡ written f0 at (replicate (d + n) v)
set_next f0 f1 f2 at d n v so_far e =
    let place : d ≡ length (replicate d v) = sym (length-replicate d v) in
    e
    ∙ (λ j. written (so_far j) (at + place j) (replicate n v))
    ∙ write_add f0 at (replicate d v) (replicate n v)
    ∙ ap (written f0 at) (sym (replicate_add d n v))
  where
    replicate_add : (d n v : ℕ) → replicate (d + n) v ≡ replicate d v ++ replicate n v
    replicate_add zero n v = let none : 0 + n ≡ n = omega arith in rw none refl
    replicate_add (suc d) n v = let count : suc d + n ≡ suc (d + n) = omega arith in rw (count, replicate_add d n v) refl
