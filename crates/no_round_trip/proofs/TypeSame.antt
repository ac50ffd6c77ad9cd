-- Types that are found to be the same are equal.
use Rattle.std.proofs.Common.{◌≡◌, ℕ, Bool, true, false, ◌==◌, List, [], ◌∷◌, map, if◌then◌else◌, refl, sym, ap, subst, ◌∙◌}
use Rattle.std.proofs.lemmas.Bool.{eqb-true, and_parts}
use Rattle.no_ir.specs.declared.types.Ty.{Ty, out-Ty, roll-Ty}
use Rattle.no_ir.specs.declared.types.Ty.TheOpen.{Ty-F}
use Rattle.no_ir.specs.declared.types.Ty.TheFolds.{ind-Ty, fold-roll-Ty, map-Ty}
use Rattle.no_ir.specs.declared.types.Ty.TheViews.{roll-out-Ty}
use Rattle.no_read_rules.specs.declared.fault.Flaw.{Flaw}
use Rattle.no_module.specs.SameTypes.{same_type, same_step, pairs, same_bit}
use Rattle.no_read_rules.specs.Types.{must_be}
use Rattle.std.specs.Prelude.{Result, Ok, Err}
use Rattle.no_read_rules.specs.declared.fault.Flaw.TheVariants.{Syntax}

same_bits : (p q : Bool) → same_bit p q ≡ true → p ≡ q
same_bits true true e = refl
same_bits true false e = absurd cc
same_bits false true e = absurd cc
same_bits false false e = refl

abbrev IsSame : Ty → Type 0
IsSame t = (b : Ty) → same_type t b ≡ true → t ≡ b

module _ (S : Type 0) (v : S → Ty) (h : (d : S) → IsSame (v d)) where
  same_fields : (ds : List S) (ts : List Ty) → pairs (map same_type (map v ds)) ts ≡ true → map v ds ≡ ts
  same_fields [] [] e = refl
  same_fields [] (t ∷ ts) e = absurd cc
  same_fields (d ∷ ds) [] e = absurd cc
  same_fields (d ∷ ds) (t ∷ ts) e =
      let parts = and_parts (same_type (v d) t) (pairs (map same_type (map v ds)) ts) e in
      let first : v d ≡ t = h d t parts.0 in
      let more : map v ds ≡ ts = same_fields ds ts parts.1 in
      λ i. first i ∷ more i

  layer : (y : Ty-F S) (b : Ty) (z : Ty-F Ty) → out-Ty b ≡ z → same_step (map-Ty Ty (Ty → Bool) same_type (map-Ty S Ty v y)) b ≡ true → map-Ty S Ty v y ≡ z
  layer Ty-F.Void b Ty-F.Void o e = refl
  layer (Ty-F.Int w) b (Ty-F.Int u) o e = ap (λ (n : ℕ). Ty-F.Int n) (eqb-true w u (rw o at e))
  layer Ty-F.Ptr b Ty-F.Ptr o e = refl
  layer (Ty-F.Array n d) b (Ty-F.Array m t) o e =
      let parts = and_parts (n == m) (same_type (v d) t) (rw o at e) in
      let count : n ≡ m = eqb-true n m parts.0 in
      let element : v d ≡ t = h d t parts.1 in
      λ i. Ty-F.Array (count i) (element i)
  layer (Ty-F.Struct p ds) b (Ty-F.Struct q ts) o e =
      let parts = and_parts (same_bit p q) (pairs (map same_type (map v ds)) ts) (rw o at e) in
      let packed : p ≡ q = same_bits p q parts.0 in
      let fields : map v ds ≡ ts = same_fields ds ts parts.1 in
      λ i. Ty-F.Struct (packed i) (fields i)
  layer (Ty-F.Named n) b (Ty-F.Named m) o e = ap (λ (k : ℕ). Ty-F.Named k) (eqb-true n m (rw o at e))
  layer Ty-F.Void b z o e = let k : false ≡ true = rw o at e in absurd cc
  layer (Ty-F.Int w) b z o e = let k : false ≡ true = rw o at e in absurd cc
  layer Ty-F.Ptr b z o e = let k : false ≡ true = rw o at e in absurd cc
  layer (Ty-F.Array n d) b z o e = let k : false ≡ true = rw o at e in absurd cc
  layer (Ty-F.Struct p ds) b z o e = let k : false ≡ true = rw o at e in absurd cc
  layer (Ty-F.Named n) b z o e = let k : false ≡ true = rw o at e in absurd cc

  one_layer : (y : Ty-F S) → IsSame (roll-Ty (map-Ty S Ty v y))
  one_layer y b e =
      let x = map-Ty S Ty v y in
      let step : same_step (map-Ty Ty (Ty → Bool) same_type x) b ≡ true = ap (λ (f : Ty → Bool). f b) (sym (fold-roll-Ty (Ty → Bool) same_step x)) ∙ e in
      ap roll-Ty (layer y b (out-Ty b) refl step) ∙ roll-out-Ty b

pub same_is : (a b : Ty) → same_type a b ≡ true → a ≡ b
same_is a = ind-Ty IsSame (λ x y e. subst (λ (z : Ty-F Ty). IsSame (roll-Ty z)) e (one_layer _ (λ d. d.0) (λ d. d.1) y)) a

pub must_again : (want found : Ty) → must_be want found ≡ Ok tt → (found ≡ want) × (must_be want want ≡ Ok tt)
must_again want found e = by (same_type found want) refl e
  where
    by : (b : Bool) → same_type found want ≡ b → (let r : Result (Unit {0}) Flaw = (if b then Ok tt else Err Syntax) in r) ≡ Ok tt → (found ≡ want) × (must_be want want ≡ Ok tt)
    by true s k = let is : found ≡ want = same_is found want s in (is, subst (λ t. must_be want t ≡ Ok tt) is e)
    by false s k = absurd cc
