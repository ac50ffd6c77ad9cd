-- The table of the defined functions by their names.
use Rattle.std.proofs.Common.{◌≡◌, ℕ, suc, ◌+◌, ◌<◌, ◌≤◌, Bool, true, false, cond, not, ◌&&◌, ◌||◌, List, [], ◌∷◌, ◌++◌, length, Option, Some, None, option_and_then, is_some, bytes_eq, ltb, slice_get, if◌then◌else◌, refl, sym, ap, ◌∙◌, true≢false, arith, add-one, one-add, drop, drop-cons, get_or, length-take-le, subst, take, take-suc, take_all, Result, Ok, Err, OnOk}
use Rattle.std.proofs.lemmas.Bool.{le-ltb, lt-ltb, ltb-true, ltb-false}
use Rattle.std.proofs.lemmas.Option.{slice_get_past}
use Rattle.std.proofs.lemmas.Slice.Eq.{bytes_eq-Decides}
use Rattle.std.specs.List.{list_any, position, position_or_len}
use Rattle.no_ir.specs.Naming.{is_known, with_name}
use Rattle.no_ir.specs.declared.function.Function.{Function}
use Rattle.no_module.specs.Functions.{is_declared}
use Rattle.no_profile.specs.Choices.{is_named, number_from, number_of}
use Rattle.no_profile.specs.Numbered.{AreNumbered, found}

pub some_is : {A : Type 0} {x y : A} → Some x ≡ Some y → x ≡ y
some_is h = cc

pub no_some : {A : Type 0} {x : A} → None ≡ Some x → ⊥
no_some h = cc

pub text_is : (a b : List ℕ) → bytes_eq a b ≡ true → a ≡ b
text_is a b e = (bytes_eq-Decides a b).0 e

pub text_same : (a b : List ℕ) → a ≡ b → bytes_eq a b ≡ true
text_same a b e = (bytes_eq-Decides a b).1 e

-- ---- names with numbers beside them

abbrev looked : List (List ℕ) → List ℕ → List ℕ → Option ℕ
looked [] numbers name = None
looked (n ∷ names) [] name = None
looked (n ∷ names) (k ∷ numbers) name = if bytes_eq name n then Some k else looked names numbers name

abbrev or_else : Option ℕ → Option ℕ → Option ℕ
or_else None other = other
or_else (Some k) other = Some k

or_none : (o : Option ℕ) → o ≡ or_else o None
or_none None = refl
or_none (Some k) = refl

at_place : (p : List ℕ → Bool) (names : List (List ℕ)) (numbers : List ℕ) → length numbers ≡ length names → option_and_then (slice_get numbers) (position p names) ≡ slice_get numbers (position_or_len p names)
at_place p names numbers wide = by (ltb (position_or_len p names) (length names)) refl
  where
    by : (b : Bool) → ltb (position_or_len p names) (length names) ≡ b → option_and_then (slice_get numbers) (cond b (Some (position_or_len p names)) None) ≡ slice_get numbers (position_or_len p names)
    by true e = refl
    by false e = sym (slice_get_past numbers (position_or_len p names) (omega (arith, wide, ltb-false (position_or_len p names) (length names) e)))

looked_at : (names : List (List ℕ)) (numbers : List ℕ) (name : List ℕ) → length numbers ≡ length names → slice_get numbers (position_or_len (bytes_eq name) names) ≡ looked names numbers name
looked_at [] [] name wide = refl
looked_at [] (k ∷ numbers) name wide = absurd (omega (arith, wide))
looked_at (n ∷ names) [] name wide = absurd (omega (arith, wide))
looked_at (n ∷ names) (k ∷ numbers) name wide = by (bytes_eq name n) (looked_at names numbers name (omega (arith, wide)))
  where
    by : (b : Bool) → slice_get numbers (position_or_len (bytes_eq name) names) ≡ looked names numbers name
        → slice_get (k ∷ numbers) (cond (not b) (1 + position_or_len (bytes_eq name) names) 0) ≡ (if b then Some k else looked names numbers name)
    by true h = refl
    by false h = ap (slice_get (k ∷ numbers)) (one-add (position_or_len (bytes_eq name) names)) ∙ h

found_is : (names : List (List ℕ)) (numbers : List ℕ) (name : List ℕ) → length numbers ≡ length names → found names numbers name ≡ looked names numbers name
found_is names numbers name wide = at_place (bytes_eq name) names numbers wide ∙ looked_at names numbers name wide

looked_behind : (names : List (List ℕ)) (numbers : List ℕ) (n : List ℕ) (k : ℕ) (name : List ℕ) → length numbers ≡ length names
    → looked (names ++ n ∷ []) (numbers ++ k ∷ []) name ≡ or_else (looked names numbers name) (if bytes_eq name n then Some k else None)
looked_behind [] [] n k name wide = refl
looked_behind [] (j ∷ numbers) n k name wide = absurd (omega (arith, wide))
looked_behind (m ∷ names) [] n k name wide = absurd (omega (arith, wide))
looked_behind (m ∷ names) (j ∷ numbers) n k name wide = by (bytes_eq name m) (looked_behind names numbers n k name (omega (arith, wide)))
  where
    by : (b : Bool) → looked (names ++ n ∷ []) (numbers ++ k ∷ []) name ≡ or_else (looked names numbers name) (if bytes_eq name n then Some k else None)
        → (if b then Some j else looked (names ++ n ∷ []) (numbers ++ k ∷ []) name) ≡ or_else (if b then Some j else looked names numbers name) (if bytes_eq name n then Some k else None)
    by true h = refl
    by false h = h

looked_known : (names : List (List ℕ)) (numbers : List ℕ) (name : List ℕ) → length numbers ≡ length names → is_known names name ≡ true → (k : ℕ) × (looked names numbers name ≡ Some k)
looked_known [] numbers name wide e = absurd (true≢false (sym e))
looked_known (n ∷ names) [] name wide e = absurd (omega (arith, wide))
looked_known (n ∷ names) (k ∷ numbers) name wide e = by (bytes_eq name n) (looked_known names numbers name (omega (arith, wide))) e
  where
    by : (b : Bool) → (is_known names name ≡ true → (j : ℕ) × (looked names numbers name ≡ Some j)) → (b || is_known names name) ≡ true → (j : ℕ) × ((if b then Some k else looked names numbers name) ≡ Some j)
    by true more h = (k, refl)
    by false more h = more h

-- ---- functions

number_behind : (name : List ℕ) (k : ℕ) (functions : List Function) (g : Function)
    → number_from name k (functions ++ g ∷ []) ≡ or_else (number_from name k functions) (if is_named name g then Some (k + length functions) else None)
number_behind name k [] g = ap (λ (n : ℕ). if is_named name g then Some n else None) (omega arith)
number_behind name k (f ∷ functions) g = by (is_named name f) (number_behind name (k + 1) functions g)
  where
    by : (b : Bool) → number_from name (k + 1) (functions ++ g ∷ []) ≡ or_else (number_from name (k + 1) functions) (if is_named name g then Some (k + 1 + length functions) else None)
        → (if b then Some k else number_from name (k + 1) (functions ++ g ∷ [])) ≡ or_else (if b then Some k else number_from name (k + 1) functions) (if is_named name g then Some (k + suc (length functions)) else None)
    by true h = refl
    by false h = h ∙ ap (λ (n : ℕ). or_else (number_from name (k + 1) functions) (if is_named name g then Some n else None)) (omega arith)

number_last : (name : List ℕ) (functions : List Function) (g : Function) → number_of (functions ++ g ∷ []) name ≡ or_else (number_of functions name) (if is_named name g then Some (length functions) else None)
number_last name functions g = number_behind name 0 functions g ∙ ap (λ (n : ℕ). or_else (number_of functions name) (if is_named name g then Some n else None)) (omega arith)

declared_names : (name : List ℕ) (g : Function) → is_declared g ≡ true → is_named name g ≡ false
declared_names name g e = rw e refl

defined_names : (name : List ℕ) (g : Function) → is_declared g ≡ false → is_named name g ≡ bytes_eq name g.name
defined_names name g e = rw e refl

pub none_numbered : AreNumbered [] [] []
none_numbered = record { wide = refl; found = λ name. refl }

-- a declared function adds nothing
pub skipped : (before : List Function) (g : Function) (names : List (List ℕ)) (numbers : List ℕ) → is_declared g ≡ true → AreNumbered before names numbers → AreNumbered (before ++ g ∷ []) names numbers
skipped before g names numbers d n = record {
  wide = n.wide;
  found = λ name.
      n.found name ∙ or_none (number_of before name)
      ∙ sym (number_last name before g ∙ ap (λ (b : Bool). or_else (number_of before name) (if b then Some (length before) else None)) (declared_names name g d));
}

abbrev numbers_with : Bool → List ℕ → ℕ → List ℕ
numbers_with known numbers k = if known then numbers else numbers ++ k ∷ []

abbrev names_with : Bool → List (List ℕ) → List ℕ → List (List ℕ)
names_with known names name = if known then names else names ++ name ∷ []

wider : (known : Bool) (names : List (List ℕ)) (numbers : List ℕ) (n : List ℕ) (k : ℕ) → length numbers ≡ length names → length (numbers_with known numbers k) ≡ length (names_with known names n)
wider true names numbers n k wide = wide
wider false names numbers n k wide = longer numbers names wide
  where
    longer : (xs : List ℕ) (ys : List (List ℕ)) → length xs ≡ length ys → length (xs ++ k ∷ []) ≡ length (ys ++ n ∷ [])
    longer [] [] e = refl
    longer [] (y ∷ ys) e = absurd (omega (arith, e))
    longer (x ∷ xs) [] e = absurd (omega (arith, e))
    longer (x ∷ xs) (y ∷ ys) e = ap suc (longer xs ys (omega (arith, e)))

kept : (o other : Option ℕ) (k : ℕ) → o ≡ Some k → o ≡ or_else o other
kept (Some j) other k e = refl
kept None other k e = absurd (no_some e)

looked_with : (known : Bool) (names : List (List ℕ)) (numbers : List ℕ) (n : List ℕ) (k : ℕ) (name : List ℕ) → length numbers ≡ length names → is_known names n ≡ known
    → looked (names_with known names n) (numbers_with known numbers k) name ≡ or_else (looked names numbers name) (if bytes_eq name n then Some k else None)
looked_with false names numbers n k name wide e = looked_behind names numbers n k name wide
looked_with true names numbers n k name wide e = by (bytes_eq name n) refl
  where
    by : (b : Bool) → bytes_eq name n ≡ b → looked names numbers name ≡ or_else (looked names numbers name) (if b then Some k else None)
    by true t =
        let known = looked_known names numbers name wide (ap (is_known names) (text_is name n t) ∙ e) in
        kept (looked names numbers name) (Some k) known.0 known.1
    by false t = or_none (looked names numbers name)

-- a defined function adds its name, where it is new
pub added : (before : List Function) (g : Function) (names : List (List ℕ)) (numbers : List ℕ) (k : ℕ) → is_declared g ≡ false → k ≡ length before → AreNumbered before names numbers
    → AreNumbered (before ++ g ∷ []) (with_name names g.name) (if is_known names g.name then numbers else numbers ++ k ∷ [])
added before g names numbers k d is n = record {
  wide = wider (is_known names g.name) names numbers g.name k n.wide;
  found = λ name.
      found_is (with_name names g.name) (numbers_with (is_known names g.name) numbers k) name (wider (is_known names g.name) names numbers g.name k n.wide)
      ∙ looked_with (is_known names g.name) names numbers g.name k name n.wide refl
      ∙ ap (λ (o : Option ℕ). or_else o (if bytes_eq name g.name then Some k else None)) (sym (found_is names numbers name n.wide) ∙ n.found name)
      ∙ ap (λ (j : ℕ). or_else (number_of before name) (if bytes_eq name g.name then Some j else None)) is
      ∙ sym (number_last name before g ∙ ap (λ (b : Bool). or_else (number_of before name) (if b then Some (length before) else None)) (defined_names name g d));
}

-- ---- what a number says

pub number_least : (name : List ℕ) (k n : ℕ) (functions : List Function) → number_from name k functions ≡ Some n → k ≤ n
number_least name k n [] e = absurd (no_some e)
number_least name k n (g ∷ more) e = by (is_named name g) (number_least name (k + 1) n more) e
  where
    by : (b : Bool) → (number_from name (k + 1) more ≡ Some n → k + 1 ≤ n) → (if b then Some k else number_from name (k + 1) more) ≡ Some n → k ≤ n
    by true least h = omega (arith, some_is h)
    by false least h = omega (arith, least h)

number_below : (name : List ℕ) (k n : ℕ) (functions : List Function) → number_from name k functions ≡ Some n → n < k + length functions
number_below name k n [] e = absurd (no_some e)
number_below name k n (g ∷ more) e = by (is_named name g) (number_below name (k + 1) n more) e
  where
    by : (b : Bool) → (number_from name (k + 1) more ≡ Some n → n < k + 1 + length more) → (if b then Some k else number_from name (k + 1) more) ≡ Some n → n < k + suc (length more)
    by true below h = omega (arith, some_is h)
    by false below h = omega (arith, below h)

pub number_within : (name : List ℕ) (n : ℕ) (functions : List Function) → number_of functions name ≡ Some n → n < length functions
number_within name n functions e = omega (arith, number_below name 0 n functions e)

named_so : (name : List ℕ) (g : Function) → is_named name g ≡ true → name ≡ g.name
named_so name g e = by (not (is_declared g)) e
  where
    by : (b : Bool) → (b && bytes_eq name g.name) ≡ true → name ≡ g.name
    by true h = text_is name g.name h
    by false h = absurd (true≢false (sym h))

-- a number has one name
pub one_number : (p q : List ℕ) (k n : ℕ) (functions : List Function) → number_from p k functions ≡ Some n → number_from q k functions ≡ Some n → p ≡ q
one_number p q k n [] d e = absurd (no_some d)
one_number p q k n (g ∷ more) d e = by (is_named p g) (is_named q g) refl refl (one_number p q (k + 1) n more) d e
  where
    by : (a b : Bool) → is_named p g ≡ a → is_named q g ≡ b → (number_from p (k + 1) more ≡ Some n → number_from q (k + 1) more ≡ Some n → p ≡ q)
        → (if a then Some k else number_from p (k + 1) more) ≡ Some n → (if b then Some k else number_from q (k + 1) more) ≡ Some n → p ≡ q
    by true true s t same u v = named_so p g s ∙ sym (named_so q g t)
    by true false s t same u v = absurd (omega (arith, some_is u, number_least q (k + 1) n more v))
    by false true s t same u v = absurd (omega (arith, some_is v, number_least p (k + 1) n more u))
    by false false s t same u v = same u v

-- ---- names that are known

next_below : (x y : ℕ) → ltb (1 + x) (suc y) ≡ ltb x y
next_below x y = by (ltb x y) refl
  where
    by : (b : Bool) → ltb x y ≡ b → ltb (1 + x) (suc y) ≡ b
    by true e = lt-ltb (1 + x) (suc y) (omega (arith, ltb-true x y e))
    by false e = le-ltb (1 + x) (suc y) (omega (arith, ltb-false x y e))

any_place : (p : List ℕ → Bool) (names : List (List ℕ)) → list_any p names ≡ ltb (position_or_len p names) (length names)
any_place p [] = sym (le-ltb 0 0 (omega arith))
any_place p (n ∷ names) = by (p n) (any_place p names)
  where
    by : (b : Bool) → list_any p names ≡ ltb (position_or_len p names) (length names) → (b || list_any p names) ≡ ltb (cond (not b) (1 + position_or_len p names) 0) (suc (length names))
    by true h = sym (lt-ltb 0 (suc (length names)) (omega arith))
    by false h = h ∙ sym (next_below (position_or_len p names) (length names))

pub known_is : (names : List (List ℕ)) (name : List ℕ) → is_some (position (bytes_eq name) names) ≡ is_known names name
known_is names name = by (ltb (position_or_len (bytes_eq name) names) (length names)) ∙ sym (any_place (bytes_eq name) names)
  where
    by : (b : Bool) → is_some (cond b (Some (position_or_len (bytes_eq name) names)) None) ≡ b
    by true = refl
    by false = refl

pub found_known : (names : List (List ℕ)) (name : List ℕ) (place : Option ℕ) (known : Bool) → place ≡ position (bytes_eq name) names → known ≡ is_some place → is_known names name ≡ known
found_known names name place known p k = sym (k ∙ ap is_some p ∙ known_is names name)

-- a name that is known adds nothing, and one that is new goes behind
pub names_stay : (names : List (List ℕ)) (name : List ℕ) → is_known names name ≡ true → names ≡ with_name names name
names_stay names name e = rw e refl

pub numbers_stay : (names : List (List ℕ)) (name : List ℕ) (numbers : List ℕ) (k : ℕ) → is_known names name ≡ true → numbers ≡ (if is_known names name then numbers else numbers ++ k ∷ [])
numbers_stay names name numbers k e = rw e refl

pub numbers_grow : (names : List (List ℕ)) (name : List ℕ) (numbers : List ℕ) (k : ℕ) → is_known names name ≡ false → numbers ++ k ∷ [] ≡ (if is_known names name then numbers else numbers ++ k ∷ [])
numbers_grow names name numbers k e = rw e refl

-- ---- the functions up to one

module _ {A : Type 0} (xs : List A) (i : ℕ) (x : A) (below : i < length xs) (is : x ≡ get_or xs i x) where
  pub next_taken : take (i + 1) xs ≡ take i xs ++ x ∷ []
  next_taken = ap (λ (k : ℕ). take k xs) (add-one i) ∙ take-suc xs i x below ∙ ap (λ (y : A). take i xs ++ y ∷ []) (sym is)

  pub next_dropped : drop i xs ≡ x ∷ drop (i + 1) xs
  next_dropped = drop-cons xs i x below ∙ ap (λ (y : A). y ∷ drop (suc i) xs) (sym is) ∙ ap (λ (k : ℕ). x ∷ drop k xs) (sym (add-one i))

pub numbered_next : (functions : List Function) (k : ℕ) (g : Function) (names new : List (List ℕ)) (numbers more : List ℕ) → k < length functions → g ≡ get_or functions k g
    → AreNumbered (take k functions) names numbers → ((before : List Function) → k ≡ length before → AreNumbered before names numbers → AreNumbered (before ++ g ∷ []) new more)
    → AreNumbered (take (k + 1) functions) new more
numbered_next functions k g names new numbers more below is so step =
    subst (λ (fs : List Function). AreNumbered fs new more) (sym (next_taken functions k g below is)) (step (take k functions) (sym (length-take-le k functions (omega (arith, below)))) so)

pub numbered_all : (functions : List Function) (k : ℕ) (names : List (List ℕ)) (numbers : List ℕ) → length functions ≤ k → AreNumbered (take k functions) names numbers → AreNumbered functions names numbers
numbered_all functions k names numbers all so = subst (λ (fs : List Function). AreNumbered fs names numbers) (take_all k functions all) so

pub added_on : {E : Type 0} (o : Result (Unit {0}) E) (before : List Function) (g : Function) (names new : List (List ℕ)) (numbers more : List ℕ) (k : ℕ) → is_declared g ≡ false → k ≡ length before → AreNumbered before names numbers
    → OnOk o (new ≡ with_name names g.name) → OnOk o (more ≡ (if is_known names g.name then numbers else numbers ++ k ∷ [])) → OnOk o (AreNumbered (before ++ g ∷ []) new more)
added_on (Err e) before g names new numbers more k d is n a b = tt
added_on (Ok x) before g names new numbers more k d is n a b = rw (a, b) (added before g names numbers k d is n)
