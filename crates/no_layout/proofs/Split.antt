-- The first cut of a list that is split at each element that passes.
use Rattle.std.proofs.Common.{◌≡◌, ℕ, ◌+◌, ◌<◌, ◌≤◌, Bool, true, false, cond, List, [], ◌∷◌, length, take, drop, Some, None, refl, subst, inl, inr, arith}
use Rattle.std.specs.List.{slice_split, position, position_or_len, before_first, after_first}
use Rattle.std.proofs.lemmas.Bool.{cases_Bool, ltb-true, ltb-false}
use Rattle.std.proofs.lemmas.List.Splits.{slice_split_first, slice_split-cons_no}

none_at : (b : Bool) (n : ℕ) → cond b (Some n) None ≡ None → b ≡ false
none_at true n e = absurd cc
none_at false n e = refl

some_at : (b : Bool) (n at : ℕ) → cond b (Some n) None ≡ Some at → (b ≡ true) × (n ≡ at)
some_at true n at e = (refl, cc)
some_at false n at e = absurd cc

-- where no element passes, the list is the one part
split_whole : (p : ℕ → Bool) (xs : List ℕ) → length xs ≤ position_or_len p xs → slice_split p xs ≡ xs ∷ []
split_whole p [] h = refl
split_whole p (x ∷ xs) h =
    elim (cases_Bool (p x)) [
      | inl passes ↦ absurd (let e : position_or_len p (x ∷ xs) ≡ 0 = rw passes refl in omega arith)
      | inr fails ↦
          let e : position_or_len p (x ∷ xs) ≡ 1 + position_or_len p xs = rw fails refl in
          let ih : slice_split p xs ≡ xs ∷ [] = split_whole p xs (omega arith) in
          rw (slice_split-cons_no p x xs fails, ih) refl
    ]

pub split_none : (p : ℕ → Bool) (xs : List ℕ) → position p xs ≡ None → slice_split p xs ≡ xs ∷ []
split_none p xs e = split_whole p xs (ltb-false _ _ (none_at _ (position_or_len p xs) e))

-- the first part ends at the first element that passes
pub split_some : (p : ℕ → Bool) (xs front back : List ℕ) (at : ℕ) → position p xs ≡ Some at → front ≡ take at xs → back ≡ drop (at + 1) xs → slice_split p xs ≡ front ∷ slice_split p back
split_some p xs front back at e f b =
    let s = some_at _ (position_or_len p xs) at e in
    let lt : position_or_len p xs < length xs = ltb-true _ _ s.0 in
    let first : slice_split p xs ≡ before_first p xs ∷ slice_split p (after_first p xs) = slice_split_first p xs 0 lt in
    rw (f, b, ← s.1) first

pub place_within : (p : ℕ → Bool) (xs : List ℕ) (at : ℕ) → position p xs ≡ Some at → at < length xs
place_within p xs at e =
    let s = some_at _ (position_or_len p xs) at e in
    let lt : position_or_len p xs < length xs = ltb-true _ _ s.0 in
    subst (λ (n : ℕ). n < length xs) s.1 lt
