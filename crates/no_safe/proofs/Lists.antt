-- Lists in which something was looked for.
use Rattle.std.proofs.Common.{◌≡◌, ⊎_elim, ℕ, zero, suc, ◌+◌, ◌<◌, ◌&&◌, not, Bool, true, false, true≢false, Option, Some, None, if◌then◌else◌, List, [], ◌∷◌, take, slice_get, Contains, refl, sym, ap, ◌∙◌, subst, arith}
use Rattle.std.specs.List.{list_all, list_any, filter_map, cons_option}
use Rattle.std.proofs.lemmas.Bool.{or_parts}
use Rattle.std.proofs.lemmas.Option.{same_Some, none-some, slice_get-get_or}
use Rattle.no_verify_types.specs.declared.place.FaultPlace.{FaultPlace}
use Rattle.no_verify_types.specs.Places.{found_or, fault_at, placed}
use Rattle.no_verify_structure.specs.Finding.{first_break, first_at, unless, unless_whole}
use Rattle.no_progress.specs.Proper.{Each}
use Rattle.no_progress.proofs.Frames.{cases, or_left, or_right}

pub and_one : (a b : Bool) → (a && b) ≡ true → a ≡ true
and_one true b e = refl
and_one false b e = e

pub and_two : (a b : Bool) → (a && b) ≡ true → b ≡ true
and_two true b e = e
and_two false b e = absurd (true≢false (sym e))

pub not_of : (b : Bool) → not b ≡ true → b ≡ false
not_of true e = absurd (true≢false (sym e))
not_of false e = refl

pub not_not : (b : Bool) → not b ≡ false → b ≡ true
not_not true e = refl
not_not false e = absurd (true≢false e)

-- ---- what is nowhere

pub placed_none : (o : Option (ℕ × (ℕ × ℕ))) → placed o ≡ None → o ≡ None
placed_none None e = refl
placed_none (Some p) e = absurd (none-some (fault_at p.0 p.1.0 p.1.1) (sym e))

pub unless_none : (keeps : Bool) (more : Option (ℕ × ℕ)) → unless keeps more ≡ None → (keeps ≡ true) × (more ≡ None)
unless_none true more e = (refl, e)
unless_none false more e = absurd (none-some {A = ℕ × ℕ} (0, 0) (sym e))

pub whole_none : (keeps : Bool) (more : Option FaultPlace) → unless_whole keeps more ≡ None → (keeps ≡ true) × (more ≡ None)
whole_none true more e = (refl, e)
whole_none false more e = absurd (none-some (fault_at 0 0 0) (sym e))

module _ {A B : Type 0} (find : ℕ → A → Option B) where
  found_none : (k : ℕ) (o : Option B) (other : Option (ℕ × B)) → found_or k o other ≡ None → (o ≡ None) × (other ≡ None)
  found_none k None other e = (refl, e)
  found_none k (Some b) other e = absurd (none-some {A = ℕ × B} (k, b) (sym e))

  pub at_none : (k : ℕ) (xs : List A) → first_at find k xs ≡ None → (j n : ℕ) (x : A) → slice_get xs j ≡ Some x → n ≡ k + j → find n x ≡ None
  at_none k [] e j n x at is = absurd (none-some x at)
  at_none k (y ∷ ys) e zero n x at is =
      let here : n ≡ k = omega (arith, is) in
      subst (λ (z : A). find n z ≡ None) (same_Some y x at) (subst (λ (m : ℕ). find m y ≡ None) (sym here) (found_none k (find k y) (first_at find (k + 1) ys) e).0)
  at_none k (y ∷ ys) e (suc j) n x at is = at_none (k + 1) ys (found_none k (find k y) (first_at find (k + 1) ys) e).1 j n x at (omega (arith, is))

-- the first element that breaks a rule, at a place
pub record Broken {A : Type 0} (keeps : ℕ → A → Bool) (xs : List A) (k n : ℕ) : Type 0 where
  pub place : ℕ
  pub is : n ≡ k + place
  pub element : A
  pub at : slice_get xs place ≡ Some element
  pub breaks : keeps n element ≡ false
  pub before : (i m : ℕ) (x : A) → i < place → slice_get xs i ≡ Some x → m ≡ k + i → keeps m x ≡ true

module _ {A : Type 0} (keeps : ℕ → A → Bool) where
  kept_none : (k : ℕ) (b : Bool) (more : Option ℕ) → (if b then more else Some k) ≡ None → (b ≡ true) × (more ≡ None)
  kept_none k true more e = (refl, e)
  kept_none k false more e = absurd (none-some k (sym e))

  pub break_none : (k : ℕ) (xs : List A) → first_break keeps k xs ≡ None → (j n : ℕ) (x : A) → slice_get xs j ≡ Some x → n ≡ k + j → keeps n x ≡ true
  break_none k [] e j n x at is = absurd (none-some x at)
  break_none k (y ∷ ys) e zero n x at is =
      let here : n ≡ k = omega (arith, is) in
      subst (λ (z : A). keeps n z ≡ true) (same_Some y x at) (subst (λ (m : ℕ). keeps m y ≡ true) (sym here) (kept_none k (keeps k y) (first_break keeps (k + 1) ys) e).0)
  break_none k (y ∷ ys) e (suc j) n x at is = break_none (k + 1) ys (kept_none k (keeps k y) (first_break keeps (k + 1) ys) e).1 j n x at (omega (arith, is))

  at_front : (k n : ℕ) (y : A) (ys : List A) → keeps k y ≡ false → n ≡ k → Broken keeps (y ∷ ys) k n
  at_front k n y ys breaks e = record {
    place = 0;
    is = omega (arith, e);
    element = y;
    at = refl;
    breaks = subst (λ (m : ℕ). keeps m y ≡ false) (sym e) breaks;
    before = λ i m x lt at is. absurd (omega (arith, lt));
  }

  behind_front : (k n : ℕ) (y : A) (ys : List A) → keeps k y ≡ true → Broken keeps ys (k + 1) n → Broken keeps (y ∷ ys) k n
  behind_front k n y ys holds b = record {
    place = suc b.place;
    is = let e = b.is in omega (arith, e);
    element = b.element;
    at = b.at;
    breaks = b.breaks;
    before = before;
  }
    where
      before : (i m : ℕ) (x : A) → i < suc b.place → slice_get (y ∷ ys) i ≡ Some x → m ≡ k + i → keeps m x ≡ true
      before zero m x lt at is =
          let here : m ≡ k = omega (arith, is) in
          subst (λ (z : A). keeps m z ≡ true) (same_Some y x at) (subst (λ (j : ℕ). keeps j y ≡ true) (sym here) holds)
      before (suc i) m x lt at is = b.before i m x (omega (arith, lt)) at (omega (arith, is))

  pub break_some : (k : ℕ) (xs : List A) (n : ℕ) → first_break keeps k xs ≡ Some n → Broken keeps xs k n
  break_some k [] n e = absurd (none-some n e)
  break_some k (y ∷ ys) n e = ⊎_elim
      (λ holds. behind_front k n y ys holds (break_some (k + 1) ys n (sym (ap (λ (b : Bool). if b then first_break keeps (k + 1) ys else Some k) holds) ∙ e)))
      (λ breaks. at_front k n y ys breaks (sym (same_Some k n (sym (ap (λ (b : Bool). if b then first_break keeps (k + 1) ys else Some k) breaks) ∙ e))))
      (cases (keeps k y))

-- ---- tests of elements

pub all_at : {A : Type 0} (keeps : A → Bool) (xs : List A) → list_all keeps xs ≡ true → (j : ℕ) (x : A) → slice_get xs j ≡ Some x → keeps x ≡ true
all_at keeps [] e j x at = absurd (none-some x at)
all_at {A} keeps (y ∷ ys) e zero x at = subst (λ (z : A). keeps z ≡ true) (same_Some y x at) (and_one (keeps y) (list_all keeps ys) e)
all_at keeps (y ∷ ys) e (suc j) x at = all_at keeps ys (and_two (keeps y) (list_all keeps ys) e) j x at

pub any_at : {A : Type 0} (test : A → Bool) (xs : List A) (j : ℕ) (x : A) → slice_get xs j ≡ Some x → test x ≡ true → list_any test xs ≡ true
any_at test [] j x at e = absurd (none-some x at)
any_at {A} test (y ∷ ys) zero x at e = or_left (test y) (list_any test ys) (subst (λ (z : A). test z ≡ true) (sym (same_Some y x at)) e)
any_at test (y ∷ ys) (suc j) x at e = or_right (test y) (list_any test ys) (any_at test ys j x at e)

pub none_at : {A : Type 0} (test : A → Bool) (xs : List A) → list_any test xs ≡ false → (j : ℕ) (x : A) → slice_get xs j ≡ Some x → test x ≡ false
none_at test [] e j x at = absurd (none-some x at)
none_at {A} test (y ∷ ys) e zero x at = subst (λ (z : A). test z ≡ false) (same_Some y x at) (or_parts (test y) (list_any test ys) e).0
none_at test (y ∷ ys) e (suc j) x at = none_at test ys (or_parts (test y) (list_any test ys) e).1 j x at

pub each_of : {A : Type 0} (P : A → Type 0) (xs : List A) → ((j : ℕ) (x : A) → slice_get xs j ≡ Some x → P x) → Each P xs
each_of P [] h = tt
each_of P (x ∷ xs) h = (h 0 x refl, each_of P xs (λ j y at. h (suc j) y at))

pub taken_at : {A : Type 0} (n : ℕ) (xs : List A) (j : ℕ) (x : A) → j < n → slice_get xs j ≡ Some x → slice_get (take n xs) j ≡ Some x
taken_at zero xs j x lt at = absurd (omega (arith, lt))
taken_at (suc n) [] j x lt at = absurd (none-some x at)
taken_at (suc n) (y ∷ ys) zero x lt at = at
taken_at (suc n) (y ∷ ys) (suc j) x lt at = taken_at n ys j x (omega (arith, lt)) at

-- ---- elements of what is kept

contains_behind : {A : Type 0} (o : Option A) (xs : List A) (x : A) → Contains xs x → Contains (cons_option o xs) x
contains_behind None xs x c = c
contains_behind (Some y) xs x c = (suc c.0, let lt = c.1 in omega (arith, lt), c.2)

pub contains_kept : {A B : Type 0} (h : A → Option B) (xs : List A) (k : ℕ) (x : A) (y : B) → slice_get xs k ≡ Some x → h x ≡ Some y → Contains (filter_map h xs) y
contains_kept h [] k x y at e = absurd (none-some x at)
contains_kept {A} {B} h (z ∷ zs) zero x y at e =
    subst (λ (o : Option B). Contains (cons_option o (filter_map h zs)) y) (sym (ap h (same_Some z x at) ∙ e)) (0, omega arith, refl)
contains_kept h (z ∷ zs) (suc k) x y at e = contains_behind (h z) (filter_map h zs) y (contains_kept h zs k x y at e)

-- an element has a place
pub contained : {A : Type 0} (xs : List A) (x : A) → Contains xs x → (k : ℕ) × (slice_get xs k ≡ Some x)
contained xs x c = (c.0, slice_get-get_or xs c.0 x c.1 ∙ ap Some c.2)
