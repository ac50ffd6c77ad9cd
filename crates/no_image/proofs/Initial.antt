-- Initialisers that are of their types.
use Rattle.std.proofs.Common.{◌≡◌, ℕ, ◌≤◌, Bool, true, ◌==◌, List, [], ◌∷◌, map, drop, length, refl, ap, sym, ◌∙◌}
use Rattle.std.proofs.lemmas.List.{drop_all}
use Rattle.std.proofs.Math.Dec.{eqb-suc-zero}
use Rattle.no_ir.specs.declared.types.Ty.{Ty, out-Ty}
use Rattle.no_ir.specs.declared.types.Ty.TheOpen.{Ty-F}
use Rattle.no_ir.specs.declared.function.Module.{Module}
use Rattle.no_layout.specs.declared.extent.Extent.{Extent}
use Rattle.no_layout.specs.declared.layout.Layout.{Layout}
use Rattle.no_semantics.specs.Indices.{resolved}
use Rattle.no_semantics.specs.Sound.{is_sound, is_scalar, is_scalar_step, type_fits}
use Rattle.no_semantics.proofs.Facts.{table_is}
use Rattle.no_semantics.proofs.Parts.{resolved_fits}
use Rattle.no_ir.specs.declared.constant.Const.{Const}
use Rattle.no_image.specs.Fits.{each_fits, int_step, is_int, is_pointer, pointer_step}

empty_fits : (ts : List Ty) → (length ts == 0) ≡ each_fits ts []
empty_fits [] = refl
empty_fits (t ∷ ts) = eqb-suc-zero (length ts)

-- no field is left
pub none_left : (fit : Const → Ty → Bool) (ts : List Ty) (fields : List Const) (k : ℕ) → length fields ≤ k → (length ts == 0) ≡ each_fits ts (map fit (drop k fields))
none_left fit ts fields k end = empty_fits ts ∙ ap (λ (cs : List Const). each_fits ts (map fit cs)) (sym (drop_all k fields end))

int_is : (s : Ty-F Ty) → int_step s ≡ true → is_scalar_step s ≡ true
int_is (Ty-F.Int w) e = e
int_is Ty-F.Void e = absurd cc
int_is Ty-F.Ptr e = absurd cc
int_is (Ty-F.Array n t) e = absurd cc
int_is (Ty-F.Struct p ts) e = absurd cc
int_is (Ty-F.Named k) e = absurd cc

pub int_scalar : (t : Ty) → is_int t ≡ true → is_scalar t ≡ true
int_scalar t e = int_is (out-Ty t) e

pointer_is : (s : Ty-F Ty) → pointer_step s ≡ true → is_scalar_step s ≡ true
pointer_is Ty-F.Ptr e = refl
pointer_is (Ty-F.Int w) e = absurd cc
pointer_is Ty-F.Void e = absurd cc
pointer_is (Ty-F.Array n t) e = absurd cc
pointer_is (Ty-F.Struct p ts) e = absurd cc
pointer_is (Ty-F.Named k) e = absurd cc

pub pointer_scalar : (t : Ty) → is_pointer t ≡ true → is_scalar t ≡ true
pointer_scalar t e = pointer_is (out-Ty t) e

-- the definition of a type that fits fits
pub resolved_fit : (m : Module) (l : Layout) (sizes : List Extent) (t u : Ty) → is_sound m l sizes ≡ true → u ≡ resolved m.types t → type_fits l sizes t ≡ true → type_fits l sizes u ≡ true
resolved_fit m l sizes t u sound is fits = rw is (resolved_fits l sizes m.types (table_is m l sizes sound) t fits)
