-- Elements of lists that were set, and of parts of lists.
use Rattle.std.specs.List.{list_all}
use Rattle.std.proofs.lemmas.Bool.{and_parts}
use Rattle.std.proofs.lemmas.List.{take-append-drop}
use Rattle.std.proofs.lemmas.Option.{same_Some}
use Rattle.std.proofs.Common.{◌≡◌, ℕ, zero, suc, ◌+◌, ◌-◌, ◌<◌, ◌≤◌, List, [], ◌∷◌, ◌++◌, Bool, true, length, take, drop, slice_get, slice_range, slice_set, Some, refl, sym, ap, subst, ◌∙◌, arith}

pub set_there : {A : Type 0} (xs : List A) (i : ℕ) (v : A) → i < length xs → slice_get (slice_set xs i v) i ≡ Some v
set_there [] i v lt = absurd (omega arith)
set_there (x ∷ xs) zero v lt = refl
set_there (x ∷ xs) (suc i) v lt = set_there xs i v (omega arith)

pub set_elsewhere : {A : Type 0} (xs : List A) (i j : ℕ) (v : A) → (i ≡ j → ⊥) → slice_get (slice_set xs i v) j ≡ slice_get xs j
set_elsewhere [] i j v other = refl
set_elsewhere (x ∷ xs) zero zero v other = absurd (other refl)
set_elsewhere (x ∷ xs) zero (suc j) v other = refl
set_elsewhere (x ∷ xs) (suc i) zero v other = refl
set_elsewhere (x ∷ xs) (suc i) (suc j) v other = set_elsewhere xs i j v (λ e. other (ap suc e))

pub set_length : {A : Type 0} (xs : List A) (i : ℕ) (v : A) → length (slice_set xs i v) ≡ length xs
set_length [] i v = refl
set_length (x ∷ xs) zero v = refl
set_length (x ∷ xs) (suc i) v = ap suc (set_length xs i v)

-- an element of a list is one of a longer list too
pub get_more : {A : Type 0} (xs ys : List A) (i : ℕ) (v : A) → slice_get xs i ≡ Some v → slice_get (xs ++ ys) i ≡ Some v
get_more [] ys i v e = absurd cc
get_more (x ∷ xs) ys zero v e = e
get_more (x ∷ xs) ys (suc i) v e = get_more xs ys i v e

-- and one of a list's first elements
pub get_take : {A : Type 0} (n : ℕ) (xs : List A) (i : ℕ) (v : A) → i < n → slice_get xs i ≡ Some v → slice_get (take n xs) i ≡ Some v
get_take zero xs i v lt e = absurd (omega arith)
get_take (suc n) [] i v lt e = absurd cc
get_take (suc n) (x ∷ xs) zero v lt e = e
get_take (suc n) (x ∷ xs) (suc i) v lt e = get_take n xs i v (omega arith) e

-- a property of all of a list is one of each
pub each_at : {A : Type 0} (p : A → Bool) (xs : List A) (k : ℕ) (x : A) → list_all p xs ≡ true → slice_get xs k ≡ Some x → p x ≡ true
each_at p [] k x all e = absurd cc
each_at p (y ∷ xs) zero x all e = subst (λ z. p z ≡ true) (same_Some y x e) (and_parts (p y) (list_all p xs) all).0
each_at p (y ∷ xs) (suc k) x all e = each_at p xs k x (and_parts (p y) (list_all p xs) all).1 e

-- parts of a list of which an element was set
pub drop_set : {A : Type 0} (b k i : ℕ) (xs : List A) (v : A) → i ≡ b + k → drop b (slice_set xs i v) ≡ slice_set (drop b xs) k v
drop_set zero k i xs v e = let same : i ≡ k = omega arith in ap (λ (j : ℕ). slice_set xs j v) same
drop_set (suc b) k zero xs v e = absurd (omega arith)
drop_set (suc b) k (suc i) [] v e = refl
drop_set (suc b) k (suc i) (x ∷ xs) v e = drop_set b k i xs v (omega arith)

pub take_set : {A : Type 0} (b i : ℕ) (xs : List A) (v : A) → b ≤ i → take b (slice_set xs i v) ≡ take b xs
take_set zero i xs v le = refl
take_set (suc b) zero xs v le = absurd (omega arith)
take_set (suc b) (suc i) [] v le = refl
take_set (suc b) (suc i) (x ∷ xs) v le = ap (λ l. x ∷ l) (take_set b i xs v (omega arith))

pub take_lower : {A : Type 0} (b n : ℕ) (xs : List A) → b ≤ n → take b (take n xs) ≡ take b xs
take_lower zero n xs le = refl
take_lower (suc b) zero xs le = absurd (omega arith)
take_lower (suc b) (suc n) [] le = refl
take_lower (suc b) (suc n) (x ∷ xs) le = ap (λ l. x ∷ l) (take_lower b n xs (omega arith))

pub drop_lower : {A : Type 0} (b n : ℕ) (xs : List A) → b ≤ n → drop b xs ≡ drop b (take n xs) ++ drop n xs
drop_lower zero n xs le = sym (take-append-drop n xs)
drop_lower (suc b) zero xs le = absurd (omega arith)
drop_lower (suc b) (suc n) [] le = refl
drop_lower (suc b) (suc n) (x ∷ xs) le = drop_lower b n xs (omega arith)

-- lists with one more at the end
pub snoc_some : {A : Type 0} (xs : List A) (x : A) → [] ≡ xs ++ x ∷ [] → ⊥
snoc_some [] x e = absurd cc
snoc_some (y ∷ xs) x e = absurd cc

abbrev snoc_first : {A : Type 0} (d : A) (xs : List A) → A
snoc_first d [] = d
snoc_first d (x ∷ xs) = x

abbrev snoc_rest : {A : Type 0} (xs : List A) → List A
snoc_rest [] = []
snoc_rest (x ∷ xs) = xs

pub snoc_same : {A : Type 0} (xs ys : List A) (x y : A) → xs ++ x ∷ [] ≡ ys ++ y ∷ [] → (xs ≡ ys) × (x ≡ y)
snoc_same [] [] x y e = (refl, ap (snoc_first x) e)
snoc_same [] (w ∷ ys) x y e = absurd (snoc_some ys y (ap snoc_rest e))
snoc_same (z ∷ xs) [] x y e = absurd (snoc_some xs x (sym (ap snoc_rest e)))
snoc_same (z ∷ xs) (w ∷ ys) x y e =
    let rest = snoc_same xs ys x y (ap snoc_rest e) in
    (λ i. ap (snoc_first z) e i ∷ rest.0 i, rest.1)

-- the first of a part of a list, and the rest
drop_first : {A : Type 0} (k : ℕ) (xs : List A) (z : A) (rest : List A) → drop k xs ≡ z ∷ rest → (slice_get xs k ≡ Some z) × (drop (k + 1) xs ≡ rest)
drop_first zero [] z rest e = absurd cc
drop_first zero (x ∷ xs) z rest e = (ap Some (ap (snoc_first x) e), ap snoc_rest e)
drop_first (suc k) [] z rest e = absurd cc
drop_first (suc k) (x ∷ xs) z rest e = let more = drop_first k xs z rest e in (more.0, next k x xs ∙ more.1)
  where
    next : {A : Type 0} (k : ℕ) (x : A) (xs : List A) → drop (suc k + 1) (x ∷ xs) ≡ drop (k + 1) xs
    next k x xs = let e : suc k + 1 ≡ suc (k + 1) = omega arith in ap (λ (n : ℕ). drop n (x ∷ xs)) e

take_first : {A : Type 0} (n : ℕ) (zs : List A) (y : A) (ys : List A) → take n zs ≡ y ∷ ys → (rest : List A) × (zs ≡ y ∷ rest) × (0 < n) × (take (n - 1) rest ≡ ys)
take_first zero zs y ys e = absurd cc
take_first (suc n) [] y ys e = absurd cc
take_first (suc n) (z ∷ zs) y ys e =
    let one : suc n - 1 ≡ n = omega arith in
    (zs, (λ i. ap (snoc_first z) e i ∷ zs), omega arith, ap (λ (k : ℕ). take k zs) one ∙ ap snoc_rest e)

pub range_first : {A : Type 0} (xs : List A) (from to : ℕ) (y : A) (ys : List A) → slice_range xs from to ≡ y ∷ ys → (slice_get xs from ≡ Some y) × (from < to) × (slice_range xs (from + 1) to ≡ ys)
range_first xs from to y ys e =
    let first = take_first (to - from) (drop from xs) y ys e in
    let there = drop_first from xs y first.0 first.1 in
    let count : to - (from + 1) ≡ to - from - 1 = omega arith in
    (there.0, omega (arith, first.2), ap (λ (n : ℕ). take n (drop (from + 1) xs)) count ∙ ap (take (to - from - 1)) there.1 ∙ first.3)
