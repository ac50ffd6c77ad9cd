-- What a search through a list that finds nothing says of each element, and numbers among others.
use Rattle.std.proofs.Common.{◌≡◌, ℕ, zero, suc, ◌+◌, Bool, true, false, cond, not, ◌||◌, nat_eq, is_some, Option, Some, None, List, [], ◌∷◌, ◌++◌, slice_get, flat_map, refl, sym, ap, ◌∙◌, subst}
use Rattle.std.proofs.lemmas.Bool.{and_parts, or_parts, or_right, false≢true}
use Rattle.std.proofs.lemmas.Option.{none-some, same_Some}
use Rattle.std.specs.List.{list_all, list_any, position_from}
use Rattle.no_verify_types.specs.Places.{found_or, first_found}
use Rattle.no_progress.specs.Proper.{Each}

-- ---- tests of all elements

pub each_from_all : {A : Type 0} (test : A → Bool) (P : A → Type 0) → ((x : A) → test x ≡ true → P x) → (xs : List A) → list_all test xs ≡ true → Each P xs
each_from_all test P gives [] all = tt
each_from_all test P gives (x ∷ xs) all = let parts = and_parts (test x) (list_all test xs) all in (gives x parts.0, each_from_all test P gives xs parts.1)

-- ---- searches that find nothing

found_none : {B : Type 0} (k : ℕ) (o : Option B) (other : Option (ℕ × B)) → found_or k o other ≡ None → (o ≡ None) × (other ≡ None)
found_none k None other e = (refl, e)
found_none k (Some b) other e = absurd (none-some (k, b) (sym e))

pub found_nowhere : {A B : Type 0} (find : A → Option B) (n : ℕ) (xs : List A) (k : ℕ) (x : A) → first_found find n xs ≡ None → slice_get xs k ≡ Some x → find x ≡ None
found_nowhere find n [] k x none is = absurd (none-some x is)
found_nowhere find n (y ∷ ys) zero x none is = subst (λ z. find z ≡ None) (same_Some y x is) (found_none n (find y) (first_found find (n + 1) ys) none).0
found_nowhere find n (y ∷ ys) (suc k) x none is = found_nowhere find (n + 1) ys k x (found_none n (find y) (first_found find (n + 1) ys) none).1 is

pub keeps_second : {B : Type 0} (b : Bool) (x : B) (o : Option B) → cond b (Some x) o ≡ None → (b ≡ false) × (o ≡ None)
keeps_second true x o e = absurd (none-some x (sym e))
keeps_second false x o e = (refl, e)

pub position_nowhere : {A : Type 0} (test : A → Bool) (n : ℕ) (xs : List A) (k : ℕ) (x : A) → position_from test n xs ≡ None → slice_get xs k ≡ Some x → test x ≡ false
position_nowhere test n [] k x none is = absurd (none-some x is)
position_nowhere test n (y ∷ ys) zero x none is = subst (λ z. test z ≡ false) (same_Some y x is) (keeps_second (test y) n (position_from test (n + 1) ys) none).0
position_nowhere test n (y ∷ ys) (suc k) x none is = position_nowhere test (n + 1) ys k x (keeps_second (test y) n (position_from test (n + 1) ys) none).1 is

pub none_since : {B : Type 0} (o : Option B) → not (is_some o) ≡ true → o ≡ None
none_since None e = refl
none_since (Some x) e = absurd (false≢true e)

pub is_there : {A : Type 0} (o : Option A) → is_some o ≡ true → (x : A) × (o ≡ Some x)
is_there None e = absurd (false≢true e)
is_there (Some x) e = (x, refl)

-- ---- numbers among others

or_kept : (b c d : Bool) → (c ≡ true → d ≡ true) → (b || c) ≡ true → (b || d) ≡ true
or_kept true c d kept e = refl
or_kept false c d kept e = kept e

pub among_left : (k : ℕ) (xs ys : List ℕ) → list_any (nat_eq k) xs ≡ true → list_any (nat_eq k) (xs ++ ys) ≡ true
among_left k [] ys e = absurd (false≢true e)
among_left k (x ∷ xs) ys e = or_kept (nat_eq k x) (list_any (nat_eq k) xs) (list_any (nat_eq k) (xs ++ ys)) (among_left k xs ys) e

pub among_right : (k : ℕ) (xs ys : List ℕ) → list_any (nat_eq k) ys ≡ true → list_any (nat_eq k) (xs ++ ys) ≡ true
among_right k [] ys e = e
among_right k (x ∷ xs) ys e = or_right (nat_eq k x) (list_any (nat_eq k) (xs ++ ys)) (among_right k xs ys e)

or_split : {P : Type 0} (b c d : Bool) → (b || c) ≡ true → ((b || d) ≡ true → P) → (c ≡ true → (d ≡ true → P) → P) → P
or_split true c d e first more = first refl
or_split false c d e first more = more e first

pub among_parts : {P : Type 0} (k : ℕ) (xs ys : List ℕ) → list_any (nat_eq k) (xs ++ ys) ≡ true → (list_any (nat_eq k) xs ≡ true → P) → (list_any (nat_eq k) ys ≡ true → P) → P
among_parts k [] ys e left right = right e
among_parts k (x ∷ xs) ys e left right =
    or_split (nat_eq k x) (list_any (nat_eq k) (xs ++ ys)) (list_any (nat_eq k) xs) e left (λ rest left'. among_parts k xs ys rest left' right)

pub among_flat : {A : Type 0} (f : A → List ℕ) (k : ℕ) (xs : List A) (j : ℕ) (x : A) → slice_get xs j ≡ Some x → list_any (nat_eq k) (f x) ≡ true → list_any (nat_eq k) (flat_map f xs) ≡ true
among_flat f k [] j x is e = absurd (none-some x is)
among_flat f k (y ∷ ys) zero x is e = among_left k (f y) (flat_map f ys) (subst (λ z. list_any (nat_eq k) (f z) ≡ true) (sym (same_Some y x is)) e)
among_flat f k (y ∷ ys) (suc j) x is e = among_right k (f y) (flat_map f ys) (among_flat f k ys j x is e)

-- what each element gives is among what it gives by a wider function
pub among_wider : {A : Type 0} (f g : A → List ℕ) (k : ℕ) → ((x : A) → list_any (nat_eq k) (f x) ≡ true → list_any (nat_eq k) (g x) ≡ true) → (xs : List A) → list_any (nat_eq k) (flat_map f xs) ≡ true → list_any (nat_eq k) (flat_map g xs) ≡ true
among_wider f g k wider [] e = e
among_wider f g k wider (x ∷ xs) e =
    among_parts k (f x) (flat_map f xs) e (λ here. among_left k (g x) (flat_map g xs) (wider x here)) (λ later. among_right k (g x) (flat_map g xs) (among_wider f g k wider xs later))

pub not_among_parts : (k : ℕ) (xs ys : List ℕ) → list_any (nat_eq k) (xs ++ ys) ≡ false → (list_any (nat_eq k) xs ≡ false) × (list_any (nat_eq k) ys ≡ false)
not_among_parts k [] ys e = (refl, e)
not_among_parts k (x ∷ xs) ys e =
    let here = or_parts (nat_eq k x) (list_any (nat_eq k) (xs ++ ys)) e in
    let rest = not_among_parts k xs ys here.1 in
    (ap (λ b. b || list_any (nat_eq k) xs) here.0 ∙ rest.0, rest.1)
