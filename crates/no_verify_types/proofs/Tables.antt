-- Tables by number that are written entry by entry.
use Rattle.std.proofs.Common.{arith, ◌≡◌, ◌∙◌, refl, sym, ap, inl, inr, ℕ, ◌<◌, Bool, true, false, ◌||◌, ◌==◌, nat_eq, if◌then◌else◌, List, [], ◌∷◌, ◌++◌, length, map, set, replicate, get_or, Option, None}
use Rattle.std.specs.List.{list_any, range_with_len}
use Rattle.std.proofs.lemmas.Bool.{cases_eq, eq-eqb, ne_eqb}
use Rattle.std.proofs.lemmas.List.{ext_get_or, get_or-replicate, get_or-set_same, get_or-set_other, length-set, length-replicate}
use Rattle.std.proofs.lemmas.List.FromFn.{get_or-map-range_with_len, length-map-range_with_len}
use Rattle.no_module.specs.declared.scalar.Scalar.{Scalar}
use Rattle.no_verify_types.specs.Registers.{first_type}
use Rattle.no_verify_types.specs.Tables.{overwritten, marked}

-- ---- types

pub overwritten_last : (types : List (Option Scalar)) (more : List (ℕ × Option Scalar)) (r : ℕ) (s : Option Scalar) → overwritten types (more ++ (r, s) ∷ []) ≡ overwritten (set types r s) more
overwritten_last types [] r s = refl
overwritten_last types (d ∷ more) r s = ap (λ l. set l d.0 d.1) (overwritten_last types more r s)

long : (types : List (Option Scalar)) (all : List (ℕ × Option Scalar)) → length (overwritten types all) ≡ length types
long types [] = refl
long types (d ∷ more) = length-set (overwritten types more) d.0 d.1 ∙ long types more

entry : (types : List (Option Scalar)) (k r : ℕ) (s found : Option Scalar) → r < length types → get_or types r None ≡ found → get_or (set types k s) r None ≡ (if k == r then s else found)
entry types k r s found below is = elim (cases_eq k r) [
  | inl same ↦ rw (same, eq-eqb r r refl) (get_or-set_same types r s None below)
  | inr other ↦ rw (ne_eqb k r other) (get_or-set_other types k r s None (λ e. other (sym e)) ∙ is)
]

at_number : (n : ℕ) (all : List (ℕ × Option Scalar)) (r : ℕ) → r < n → get_or (overwritten (replicate n None) all) r None ≡ first_type all r
at_number n [] r below = get_or-replicate n r None None below
at_number n (d ∷ more) r below =
    let full : length (overwritten (replicate n None) more) ≡ n = long (replicate n None) more ∙ length-replicate n None in
    entry (overwritten (replicate n None) more) d.0 r d.1 (first_type more r) (omega (arith, full)) (at_number n more r below)

pub overwritten_all : (n : ℕ) (all : List (ℕ × Option Scalar)) → overwritten (replicate n None) all ≡ map (first_type all) (range_with_len 0 n)
overwritten_all n all =
    let full : length (overwritten (replicate n None) all) ≡ n = long (replicate n None) all ∙ length-replicate n None in
    let same : length (map (first_type all) (range_with_len 0 n)) ≡ n = length-map-range_with_len (first_type all) 0 n in
    ext_get_or None (overwritten (replicate n None) all) (map (first_type all) (range_with_len 0 n)) (full ∙ sym same)
    (λ r below. at_number n all r (omega (arith, full)) ∙ sym (get_or-map-range_with_len (first_type all) 0 n r r None (omega (arith, full)) (omega arith)))

-- ---- marks

joined : (a b c x y : Bool) → x ≡ (y || c) → y ≡ (a || b) → x ≡ (a || (b || c))
joined true b c x y p q = rw (p, q) refl
joined false b c x y p q = rw (p, q) refl

or_none : (a : Bool) → a ≡ (a || false)
or_none true = refl
or_none false = refl

or_one : (a : Bool) → true ≡ (a || true)
or_one true = refl
or_one false = refl

mark : (marks : List Bool) (n k : ℕ) → k < length marks → get_or (set marks n true) k false ≡ (get_or marks k false || nat_eq k n)
mark marks n k below = elim (cases_eq k n) [
  | inl same ↦ rw (sym same, eq-eqb k k refl) (get_or-set_same marks k true false below ∙ or_one (get_or marks k false))
  | inr other ↦ rw (ne_eqb k n other) (get_or-set_other marks n k true false other ∙ or_none (get_or marks k false))
]

at_mark : (marks : List Bool) (names : List ℕ) (k : ℕ) → k < length marks → get_or (marked marks names) k false ≡ (get_or marks k false || list_any (nat_eq k) names)
at_mark marks [] k below = or_none (get_or marks k false)
at_mark marks (n ∷ more) k below =
    joined (get_or marks k false) (nat_eq k n) (list_any (nat_eq k) more) (get_or (marked (set marks n true) more) k false) (get_or (set marks n true) k false)
    (at_mark (set marks n true) more k (omega (arith, length-set marks n true))) (mark marks n k below)

-- what is marked where nothing was
pub marked_all : (n : ℕ) (names : List ℕ) (k : ℕ) → k < n → get_or (marked (replicate n false) names) k false ≡ list_any (nat_eq k) names
marked_all n names k below =
    let at : get_or (replicate n false) k false ≡ false = get_or-replicate n k false false below in
    let all : get_or (marked (replicate n false) names) k false ≡ (get_or (replicate n false) k false || list_any (nat_eq k) names) =
    at_mark (replicate n false) names k (omega (arith, length-replicate n false)) in
    all ∙ rw at refl
