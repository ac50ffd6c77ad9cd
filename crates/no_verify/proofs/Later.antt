-- What holds of a module in which no type is too large.
use Rattle.std.proofs.Common.{◌≡◌, Bool, true, false, ◌&&◌, List, [], ◌∷◌, Option, Some, None, refl, sym, ap, ◌∙◌, if◌then◌else◌}
use Rattle.std.specs.List.{list_all}
use Rattle.no_ir.specs.declared.function.GlobalVar.{GlobalVar}
use Rattle.no_ir.specs.declared.function.Module.{Module}
use Rattle.no_layout.specs.Sizes.{sizes_of}
use Rattle.no_layout.specs.declared.extent.Extent.{Extent}
use Rattle.no_layout.specs.declared.layout.Layout.{Layout}
use Rattle.no_room.specs.Fits.{have_types, type_fits}
use Rattle.no_verify_types.specs.declared.place.FaultPlace.{FaultPlace}
use Rattle.no_verify_structure.specs.Finding.{unless_whole}
use Rattle.no_verify_structure.specs.Large.{global_fits, large_of, large_with, named_fit}

held : (b : Bool) (more : Option FaultPlace) → unless_whole b more ≡ None → b ≡ true
held true more h = refl
held false more h = absurd cc

after : (b : Bool) (more : Option FaultPlace) → unless_whole b more ≡ None → more ≡ None
after true more h = h
after false more h = absurd cc

both_left : (b c : Bool) → (b && c) ≡ true → b ≡ true
both_left true c h = refl
both_left false c h = h

both_right : (b c : Bool) → (b && c) ≡ true → c ≡ true
both_right true c h = h
both_right false c h = absurd cc

all_types : (l : Layout) (sizes : List Extent) (globals : List GlobalVar) → list_all (global_fits l sizes) globals ≡ true → have_types l sizes globals ≡ true
all_types l sizes [] h = refl
all_types l sizes (g ∷ more) h =
    let here = both_left (global_fits l sizes g) (list_all (global_fits l sizes) more) h in
    let rest = all_types l sizes more (both_right (global_fits l sizes g) (list_all (global_fits l sizes) more) h) in
    rw (both_left (type_fits l sizes g.ty) _ here) rest

pub types_fit : (l : Layout) (m : Module) → large_of l m ≡ None → have_types l (sizes_of l m.types) m.globals ≡ true
types_fit l m h = all_types l (sizes_of l m.types) m.globals (held _ _ (after (named_fit l m.types) (large_with l (sizes_of l m.types) m) h))
