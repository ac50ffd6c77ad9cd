-- Names that are found by their place, and tests by sets that have the same members.
use Rattle.std.proofs.Common.{◌≡◌, ℕ, suc, ◌+◌, Bool, true, false, cond, not, ◌||◌, nat_lt, List, [], ◌∷◌, length, position, bytes_eq, Option, Some, None, is_none, refl, sym, ap, ◌∙◌, arith}
use Rattle.std.specs.List.{list_any, position_or_len}
use Rattle.no_ir.specs.Naming.{is_known}

next_below : (n m : ℕ) → nat_lt (1 + n) (suc m) ≡ nat_lt n m
next_below n m = grind arith

none_below : (m : ℕ) → nat_lt 0 (suc m) ≡ true
none_below m = grind arith

place_below : {X : Type 0} (p : X → Bool) (xs : List X) → nat_lt (position_or_len p xs) (length xs) ≡ list_any p xs
place_below p [] = refl
place_below p (x ∷ xs) = by (p x) refl (place_below p xs)
  where
    by : (b : Bool) → p x ≡ b → nat_lt (position_or_len p xs) (length xs) ≡ list_any p xs → nat_lt (position_or_len p (x ∷ xs)) (length (x ∷ xs)) ≡ list_any p (x ∷ xs)
    by true e more = rw e (none_below (length xs))
    by false e more = rw e (next_below (position_or_len p xs) (length xs) ∙ more)

-- a name has no place where it is not known
pub known_by_place : (names : List (List ℕ)) (name : List ℕ) → is_none (position (bytes_eq name) names) ≡ not (is_known names name)
known_by_place names name = by (nat_lt (position_or_len (bytes_eq name) names) (length names)) (place_below (bytes_eq name) names)
  where
    by : (b : Bool) → b ≡ is_known names name → is_none (cond b (Some (position_or_len (bytes_eq name) names)) None) ≡ not (is_known names name)
    by true e = ap not e
    by false e = ap not e
