-- The function that a program begins with.
use Rattle.std.specs.Prelude.{ℕ, Bool, true, false, ◌&&◌, ◌==◌, not, bytes_eq, codes, List, [], ◌∷◌, Option, None}
use Rattle.std.specs.List.{list_any}
use Rattle.no_ir.specs.declared.types.Ty.{Ty, out-Ty}
use Rattle.no_ir.specs.declared.types.Ty.TheOpen.{Ty-F}
use Rattle.no_ir.specs.declared.function.Function.{Function}
use Rattle.no_ir.specs.declared.function.Module.{Module}
use Rattle.no_ir.specs.declared.function.Role.{Role}
use Rattle.no_ir.specs.declared.function.Role.TheVariants.{Source, Part}
use Rattle.no_verify_types.specs.declared.place.FaultPlace.{FaultPlace}
use Rattle.no_module.specs.Functions.{is_declared}
use Rattle.no_verify_structure.specs.Finding.{unless_whole}

-- the outermost layer of a type is i32
abbrev pub int_step : Ty-F Ty → Bool
int_step (Ty-F.Int w) = w == 32
int_step _ = false

-- a type is i32, as what `main` gives and the count that it takes
abbrev pub is_i32 : Ty → Bool
is_i32 t = int_step (out-Ty t)

-- the outermost layer of a type is ptr
abbrev pub ptr_step : Ty-F Ty → Bool
ptr_step Ty-F.Ptr = true
ptr_step _ = false

-- a type is ptr, as the words that `main` takes
abbrev pub is_ptr : Ty → Bool
is_ptr t = ptr_step (out-Ty t)

-- none, or an i32 and a ptr
abbrev pub main_parameters : List (ℕ × Ty) → Bool
main_parameters [] = true
main_parameters (count ∷ words ∷ []) = is_i32 count.1 && is_ptr words.1
main_parameters _ = false

-- a function `main` that is defined as `i32 ()` or `i32 (i32, ptr)`
abbrev pub is_main : Function → Bool
is_main f = bytes_eq f.name (codes "main") && (not (is_declared f) && (is_i32 f.result && main_parameters f.params))

-- a source needs one
abbrev pub entry_of : Module → Role → Option FaultPlace
entry_of m Source = unless_whole (list_any is_main m.functions) None
entry_of m Part = None
