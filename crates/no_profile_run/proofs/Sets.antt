-- Lists of numbers, whether a number is one of them, and elements of lists.
use Rattle.std.proofs.Common.{◌≡◌, ℕ, zero, suc, ◌+◌, ◌-◌, ◌<◌, ◌≤◌, ◌==◌, inl, inr, ◌⊎◌, Bool, true, false, true≢false, if◌then◌else◌, List, [], ◌∷◌, ◌++◌, length, length-append, get_or, slice_get, slice_set, Option, Some, None, refl, sym, ap, subst, ◌∙◌, arith}
use Rattle.std.specs.List.{list_any}
use Rattle.std.specs.Prelude.{◌||◌}
use Rattle.std.proofs.lemmas.Bool.{cases_Bool, eqb-true, eqb-false, eq-eqb, cases_lt}
use Rattle.std.proofs.lemmas.Option.{same_Some, get_or_from_slice_get, slice_get_within}
use Rattle.no_profile_run.specs.Profiled.{is_among}
use Rattle.no_profile_run.specs.Tallied.{outermost, times}

-- ---- elements

pub set_there : {A : Type 0} (xs : List A) (i : ℕ) (v : A) → i < length xs → slice_get (slice_set xs i v) i ≡ Some v
set_there [] i v lt = absurd (omega arith)
set_there (x ∷ xs) zero v lt = refl
set_there (x ∷ xs) (suc i) v lt = set_there xs i v (omega arith)

pub set_elsewhere : {A : Type 0} (xs : List A) (i j : ℕ) (v : A) → (i ≡ j → ⊥) → slice_get (slice_set xs i v) j ≡ slice_get xs j
set_elsewhere [] i j v other = refl
set_elsewhere (x ∷ xs) zero zero v other = absurd (other refl)
set_elsewhere (x ∷ xs) zero (suc j) v other = refl
set_elsewhere (x ∷ xs) (suc i) zero v other = refl
set_elsewhere (x ∷ xs) (suc i) (suc j) v other = set_elsewhere xs i j v (λ e. other (ap suc e))

pub set_length : {A : Type 0} (xs : List A) (i : ℕ) (v : A) → length (slice_set xs i v) ≡ length xs
set_length [] i v = refl
set_length (x ∷ xs) zero v = refl
set_length (x ∷ xs) (suc i) v = ap suc (set_length xs i v)

pub or_set_there : (xs : List ℕ) (i v : ℕ) → i < length xs → get_or (slice_set xs i v) i 0 ≡ v
or_set_there xs i v lt = get_or_from_slice_get (slice_set xs i v) i v 0 (set_there xs i v lt)

pub or_set_elsewhere : (xs : List ℕ) (i j v : ℕ) → (i ≡ j → ⊥) → get_or (slice_set xs i v) j 0 ≡ get_or xs j 0
or_set_elsewhere [] i j v other = refl
or_set_elsewhere (x ∷ xs) zero zero v other = absurd (other refl)
or_set_elsewhere (x ∷ xs) zero (suc j) v other = refl
or_set_elsewhere (x ∷ xs) (suc i) zero v other = refl
or_set_elsewhere (x ∷ xs) (suc i) (suc j) v other = or_set_elsewhere xs i j v (λ e. other (ap suc e))

-- there is an element at each place of a list
pub there_is : {A : Type 0} (xs : List A) (k : ℕ) → k < length xs → (x : A) × (slice_get xs k ≡ Some x)
there_is [] k lt = absurd (omega arith)
there_is (x ∷ xs) zero lt = (x, refl)
there_is (x ∷ xs) (suc k) lt = there_is xs k (omega arith)

pub here_or : {A : Type 0} (xs : List A) (k : ℕ) (d : A) → k < length xs → slice_get xs k ≡ Some (get_or xs k d)
here_or [] k d lt = absurd (omega arith)
here_or (x ∷ xs) zero d lt = refl
here_or (x ∷ xs) (suc k) d lt = here_or xs k d (omega arith)

pub get_front : {A : Type 0} (xs : List A) (x : A) (k : ℕ) (v : A) → slice_get xs k ≡ Some v → slice_get (xs ++ x ∷ []) k ≡ Some v
get_front [] x k v e = absurd cc
get_front (y ∷ xs) x zero v e = e
get_front (y ∷ xs) x (suc k) v e = get_front xs x k v e

pub get_last : {A : Type 0} (xs : List A) (x : A) → slice_get (xs ++ x ∷ []) (length xs) ≡ Some x
get_last [] x = refl
get_last (y ∷ xs) x = get_last xs x

-- an element of a list with one more at the end is one of the list, or the last
pub front_or_last : {A : Type 0} (xs : List A) (x : A) (k : ℕ) (v : A) → slice_get (xs ++ x ∷ []) k ≡ Some v → (slice_get xs k ≡ Some v) ⊎ ((k ≡ length xs) × (v ≡ x))
front_or_last [] x zero v e = inr (refl, sym (same_Some x v e))
front_or_last [] x (suc k) v e = absurd cc
front_or_last (y ∷ xs) x zero v e = inl e
front_or_last (y ∷ xs) x (suc k) v e = elim (front_or_last xs x k v e) [
  | inl there ↦ inl there
  | inr last ↦ inr (ap suc last.0, last.1)
]

-- ---- numbers of lists

same_eqb : (f : ℕ) → (f == f) ≡ true
same_eqb f = eq-eqb f f refl

pub among_at : (fs : List ℕ) (k f : ℕ) → slice_get fs k ≡ Some f → is_among f fs ≡ true
among_at [] k f e = absurd cc
among_at (g ∷ fs) zero f e = (let same : g ≡ f = same_Some g f e in ap (λ (x : ℕ). (x == f) || is_among f fs) same ∙ ap (λ (b : Bool). b || is_among f fs) (same_eqb f))
among_at (g ∷ fs) (suc k) f e = ap (λ (b : Bool). (g == f) || b) (among_at fs k f e) ∙ any (g == f)
  where
    any : (b : Bool) → (b || true) ≡ true
    any true = refl
    any false = refl

-- the first of a list, or one of the others
pub among_cons : (f g : ℕ) (fs : List ℕ) → is_among f (g ∷ fs) ≡ true → (g ≡ f) ⊎ (is_among f fs ≡ true)
among_cons f g fs e = of (g == f) refl e
  where
    of : (b : Bool) → (g == f) ≡ b → (b || is_among f fs) ≡ true → (g ≡ f) ⊎ (is_among f fs ≡ true)
    of true is e = inl (eqb-true g f is)
    of false is e = inr e

pub among_first : (f : ℕ) (fs : List ℕ) → is_among f (f ∷ fs) ≡ true
among_first f fs = ap (λ (b : Bool). b || is_among f fs) (same_eqb f)

pub among_more : (f g : ℕ) (fs : List ℕ) → is_among f fs ≡ true → is_among f (g ∷ fs) ≡ true
among_more f g fs e = of (g == f)
  where
    of : (b : Bool) → (b || is_among f fs) ≡ true
    of true = refl
    of false = e

pub among_other : (f g : ℕ) (fs : List ℕ) → (g ≡ f → ⊥) → is_among f (g ∷ fs) ≡ is_among f fs
among_other f g fs other = of (g == f) refl
  where
    of : (b : Bool) → (g == f) ≡ b → (b || is_among f fs) ≡ is_among f fs
    of true is = absurd (other (eqb-true g f is))
    of false is = refl

pub snoc_last : (f : ℕ) (fs : List ℕ) → is_among f (fs ++ f ∷ []) ≡ true
snoc_last f fs = among_at (fs ++ f ∷ []) (length fs) f (get_last fs f)

pub snoc_other : (f g : ℕ) (fs : List ℕ) → (g ≡ f → ⊥) → is_among f (fs ++ g ∷ []) ≡ is_among f fs
snoc_other f g [] other = among_other f g [] other
snoc_other f g (x ∷ fs) other = ap (λ (b : Bool). (x == f) || b) (snoc_other f g fs other)

pub equal : (g f : ℕ) → (g ≡ f) ⊎ (g ≡ f → ⊥)
equal g f = of (g == f) refl
  where
    of : (b : Bool) → (g == f) ≡ b → (g ≡ f) ⊎ (g ≡ f → ⊥)
    of true is = inl (eqb-true g f is)
    of false is = inr (λ e. true≢false (sym (eq-eqb g f e) ∙ is))

pub snoc_kept : (f g : ℕ) (fs : List ℕ) → is_among f fs ≡ true → is_among f (fs ++ g ∷ []) ≡ true
snoc_kept f g fs e = elim (equal g f) [
  | inl same ↦ subst (λ (x : ℕ). is_among f (fs ++ x ∷ []) ≡ true) (sym same) (snoc_last f fs)
  | inr other ↦ snoc_other f g fs other ∙ e
]

-- the functions of open calls are those that have one
pub outermost_among : (f : ℕ) (fs : List ℕ) → is_among f (outermost fs) ≡ is_among f fs
outermost_among f [] = refl
outermost_among f (g ∷ fs) = of (is_among g fs) refl (outermost_among f fs)
  where
    of : (b : Bool) → is_among g fs ≡ b → is_among f (outermost fs) ≡ is_among f fs → is_among f (if b then outermost fs else outermost fs ++ g ∷ []) ≡ is_among f (g ∷ fs)
    of true known rest = elim (equal g f) [
      | inl same ↦ rest ∙ subst (λ (x : ℕ). is_among x fs ≡ true) same known ∙ sym (subst (λ (x : ℕ). is_among f (x ∷ fs) ≡ true) (sym same) (among_first f fs))
      | inr other ↦ rest ∙ sym (among_other f g fs other)
    ]
    of false new rest = elim (equal g f) [
      | inl same ↦ subst (λ (x : ℕ). is_among f (outermost fs ++ x ∷ []) ≡ true) (sym same) (snoc_last f (outermost fs)) ∙ sym (subst (λ (x : ℕ). is_among f (x ∷ fs) ≡ true) (sym same) (among_first f fs))
      | inr other ↦ snoc_other f g (outermost fs) other ∙ rest ∙ sym (among_other f g fs other)
    ]

-- how often a function has an open call tells whether it has one
pub times_none : (f : ℕ) (fs : List ℕ) → times f fs ≡ 0 → is_among f fs ≡ false
times_none f [] e = refl
times_none f (g ∷ fs) e = of (g == f) e (times_none f fs)
  where
    of : (b : Bool) → (if b then 1 else 0) + times f fs ≡ 0 → (times f fs ≡ 0 → is_among f fs ≡ false) → (b || is_among f fs) ≡ false
    of true e rest = absurd (omega arith)
    of false e rest = rest (omega arith)

pub times_some : (f : ℕ) (fs : List ℕ) → (times f fs ≡ 0 → ⊥) → is_among f fs ≡ true
times_some f [] e = absurd (e refl)
times_some f (g ∷ fs) e = of (g == f) e (times_some f fs)
  where
    of : (b : Bool) → ((if b then 1 else 0) + times f fs ≡ 0 → ⊥) → ((times f fs ≡ 0 → ⊥) → is_among f fs ≡ true) → (b || is_among f fs) ≡ true
    of true e rest = refl
    of false e rest = rest (λ z. e (omega (arith, z)))

pub times_same : (f : ℕ) (fs : List ℕ) → times f (f ∷ fs) ≡ times f fs + 1
times_same f fs = (let one : times f (f ∷ fs) ≡ 1 + times f fs = ap (λ (b : Bool). (if b then 1 else 0) + times f fs) (same_eqb f) in omega arith)

pub times_other : (f g : ℕ) (fs : List ℕ) → (g ≡ f → ⊥) → times f (g ∷ fs) ≡ times f fs
times_other f g fs other = of (g == f) refl
  where
    of : (b : Bool) → (g == f) ≡ b → (if b then 1 else 0) + times f fs ≡ times f fs
    of true is = absurd (other (eqb-true g f is))
    of false is = omega arith
