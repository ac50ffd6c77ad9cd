-- Names that are kept as values of another type: places and tests are those of the names themselves.
use Rattle.std.proofs.Common.{◌≡◌, ℕ, ◌<◌, ◌+◌, Bool, true, false, cond, not, ◌||◌, List, [], ◌∷◌, ◌++◌, map, length, slice_get, position, bytes_eq, Some, if◌then◌else◌, refl, sym, ap, subst, ◌∙◌, arith, true≢false}
use Rattle.std.specs.List.{list_any, position_or_len, find}
use Rattle.std.specs.Option.{option_map}
use Rattle.std.specs.Cmp.Lexicographic.{same_text}
use Rattle.std.proofs.lemmas.List.Folds.{find_at, list_any-append}
use Rattle.std.proofs.lemmas.List.Quantifiers.{position-Some}
use Rattle.std.proofs.lemmas.List.Sums.{position_or_len_is}
use Rattle.std.proofs.lemmas.List.{length-map, map-append}
use Rattle.std.proofs.lemmas.Option.{slice_get-map}
use Rattle.no_ir.specs.Naming.{is_known, place_of, with_name, IsDistinct}

module _ {V : Type 0} (f : V → List ℕ) where
  module _ (p : List ℕ → Bool) where
    pub mapped_place : (ks : List V) → position_or_len (λ k. p (f k)) ks ≡ position_or_len p (map f ks)
    mapped_place [] = refl
    mapped_place (k ∷ ks) = ap (λ n. cond (not (p (f k))) (1 + n) 0) (mapped_place ks)

    pub mapped_known : (ks : List V) → list_any (λ k. p (f k)) ks ≡ list_any p (map f ks)
    mapped_known [] = refl
    mapped_known (k ∷ ks) = ap (λ b. p (f k) || b) (mapped_known ks)

    pub mapped_position : (ks : List V) → position (λ k. p (f k)) ks ≡ position p (map f ks)
    mapped_position ks = rw (mapped_place ks, length-map ks f) refl

  -- inserting a value is the appearing of its name
  pub inserted_names : (ks after : List V) (own : V) (name : List ℕ) → f own ≡ name
      → after ≡ (if list_any (λ k. bytes_eq (f own) (f k)) ks then ks else ks ++ own ∷ []) → map f after ≡ with_name (map f ks) name
  inserted_names ks after own name is e = subst (λ n. map f after ≡ with_name (map f ks) n) is (rw (e, ← mapped_known (bytes_eq (f own)) ks) (by (list_any (λ k. bytes_eq (f own) (f k)) ks)))
    where
      by : (b : Bool) → map f (if b then ks else ks ++ own ∷ []) ≡ (if b then map f ks else map f ks ++ f own ∷ [])
      by true = refl
      by false = map-append f ks (own ∷ [])

  pub inserted_place : (ks : List V) (own : V) (name : List ℕ) (at : ℕ) → f own ≡ name
      → at ≡ position_or_len (λ k. bytes_eq (f own) (f k)) ks → at ≡ place_of (map f ks) name
  inserted_place ks own name at is e = subst (λ n. at ≡ place_of (map f ks) n) is (e ∙ mapped_place (bytes_eq (f own)) ks)

  pub inserted_held : (after : List V) (own k : V) (name : List ℕ) (at : ℕ) → f own ≡ name
      → slice_get after at ≡ Some k → bytes_eq (f own) (f k) ≡ true → slice_get (map f after) at ≡ Some name
  inserted_held after own k name at is e same = slice_get-map f after at ∙ ap (option_map f) e ∙ ap Some (sym (same_text (f own) (f k) (sym same)) ∙ is)

-- a known name is found
found_name : (names : List (List ℕ)) (name : List ℕ) → is_known names name ≡ true → find (bytes_eq name) names ≡ Some name
found_name [] name h = absurd (true≢false (sym h))
found_name (first ∷ names) name h = by (bytes_eq name first) refl (found_name names name)
  where
    by : (b : Bool) → bytes_eq name first ≡ b → (is_known names name ≡ true → find (bytes_eq name) names ≡ Some name) → cond (bytes_eq name first) (Some first) (find (bytes_eq name) names) ≡ Some name
    by true e more = rw e (ap Some (sym (same_text name first (sym e))))
    by false e more = rw e (more (sym (ap (λ b. b || is_known names name) e) ∙ h))

-- and stands at its place
pub known_held : (names : List (List ℕ)) (name : List ℕ) → is_known names name ≡ true → slice_get names (place_of names name) ≡ Some name
known_held names name h = sym (find_at (bytes_eq name) names) ∙ found_name names name h

-- a name with a place inside the list is known
pub below_known : (p : List ℕ → Bool) (names : List (List ℕ)) → position_or_len p names < length names → list_any p names ≡ true
below_known p [] h = absurd (omega arith)
below_known p (first ∷ names) h = by (p first) refl (below_known p names)
  where
    by : (b : Bool) → p first ≡ b → (position_or_len p names < length names → list_any p names ≡ true) → (p first || list_any p names) ≡ true
    by true e more = rw e refl
    by false e more = rw e (more (let k : cond (not (p first)) (1 + position_or_len p names) 0 < length (first ∷ names) = h in let m : 1 + position_or_len p names < length (first ∷ names) = rw e at k in omega arith))

-- what a search for a name that is there gives
pub found_place : (names : List (List ℕ)) (name : List ℕ) (at : ℕ) → Some at ≡ position (bytes_eq name) names → at ≡ place_of names name
found_place names name at e = let s = position-Some (bytes_eq name) names at [] (sym e) in sym (position_or_len_is (bytes_eq name) names at [] (omega arith) s.2 (λ _. s.1))

pub found_known : (names : List (List ℕ)) (name : List ℕ) (at : ℕ) → Some at ≡ position (bytes_eq name) names → is_known names name ≡ true
found_known names name at e = below_known (bytes_eq name) names (let s = position-Some (bytes_eq name) names at [] (sym e) in let is : at ≡ position_or_len (bytes_eq name) names = found_place names name at e in omega arith)

pub found_held : (names : List (List ℕ)) (name : List ℕ) (at : ℕ) → Some at ≡ position (bytes_eq name) names → slice_get names at ≡ Some name
found_held names name at e = subst (λ k. slice_get names k ≡ Some name) (sym (found_place names name at e)) (known_held names name (found_known names name at e))

pub known_same : (names : List (List ℕ)) (name : List ℕ) → is_known names name ≡ true → names ≡ with_name names name
known_same names name h = rw h refl

-- names stay without repetition
other_name : (name first : List ℕ) → bytes_eq name first ≡ false → bytes_eq first name ≡ false
other_name name first e = by (bytes_eq first name) refl
  where
    by : (b : Bool) → bytes_eq first name ≡ b → bytes_eq first name ≡ false
    by true s = let is : first ≡ name = same_text first name (sym s) in subst (λ n. bytes_eq first n ≡ false) is (subst (λ n. bytes_eq n first ≡ false) (sym is) e)
    by false s = s

pushed_distinct : (names : List (List ℕ)) (name : List ℕ) → is_known names name ≡ false → IsDistinct names → IsDistinct (names ++ name ∷ [])
pushed_distinct [] name new d = (refl, tt)
pushed_distinct (first ∷ names) name new d = by (bytes_eq name first) refl (pushed_distinct names name)
  where
    by : (b : Bool) → bytes_eq name first ≡ b → (is_known names name ≡ false → IsDistinct names → IsDistinct (names ++ name ∷ [])) → IsDistinct ((first ∷ names) ++ name ∷ [])
    by true e more = absurd (true≢false (sym (ap (λ b. b || is_known names name) e) ∙ new))
    by false e more = (rw (list_any-append (bytes_eq first) names (name ∷ []), d.0, other_name name first e) refl, more (sym (ap (λ b. b || is_known names name) e) ∙ new) d.1)

pub distinct_with : (names : List (List ℕ)) (name : List ℕ) → IsDistinct names → IsDistinct (with_name names name)
distinct_with names name d = by (is_known names name) refl
  where
    by : (b : Bool) → is_known names name ≡ b → IsDistinct (if b then names else names ++ name ∷ [])
    by true e = d
    by false e = pushed_distinct names name e d
