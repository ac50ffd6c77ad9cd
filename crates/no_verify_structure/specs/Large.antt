-- Types that are too large: more than 0x1000_0000 bytes, or with such a type inside.
use Rattle.std.specs.Prelude.{◌≡◌, ℕ, Bool, true, ◌&&◌, not, is_some, List, take, Option, Some, None, Result, Ok, Err}
use Rattle.std.specs.List.{list_all}
use Rattle.no_ir.specs.declared.types.Ty.{Ty}
use Rattle.no_ir.specs.declared.constant.Place.{Place}
use Rattle.no_ir.specs.declared.instruction.Instr.{Instr}
use Rattle.no_ir.specs.declared.function.Function.{Function}
use Rattle.no_ir.specs.declared.function.GlobalVar.{GlobalVar}
use Rattle.no_ir.specs.declared.function.Module.{Module}
use Rattle.no_layout.specs.Sizes.{measure_of, sizes_of}
use Rattle.no_layout.specs.declared.extent.Extent.{Extent}
use Rattle.no_layout.specs.declared.layout.Layout.{Layout}
use Rattle.no_room.specs.Fits.{type_fits}
use Rattle.no_verify_types.specs.declared.place.FaultPlace.{FaultPlace}
use Rattle.no_verify_structure.specs.Finding.{first_break, first_instr, first_place, unless, unless_whole}
use Rattle.no_module.specs.Instructions.{types_of}
use Rattle.no_verify_structure.specs.Parts.{constant_keeps, operands_keep}

-- each named type fits, used or not, by the sizes of those before it
abbrev pub named_fit : Layout → List (List ℕ × Ty) → Bool
named_fit l types = not (is_some (first_break (λ k (named : List ℕ × Ty). type_fits l (sizes_of l (take k types)) named.1) 0 types))

-- the type that a constant address steps through
abbrev pub base_fits : Layout → List Extent → Place → Bool
base_fits l sizes place = type_fits l sizes place.base

-- the type of a global fits, and so do those that addresses in its first value step through
abbrev pub global_fits : Layout → List Extent → GlobalVar → Bool
global_fits l sizes g = type_fits l sizes g.ty && constant_keeps (base_fits l sizes) g.init

-- the types of a function's result and parameters
abbrev pub head_fits : Layout → List Extent → Function → Bool
head_fits l sizes f = type_fits l sizes f.result && list_all (λ p. type_fits l sizes p.1) f.params

-- the types that an instruction names, in its operands too
abbrev pub instr_fits : Layout → List Extent → Instr → Bool
instr_fits l sizes i = list_all (type_fits l sizes) (types_of i.op) && operands_keep (λ r. true) (base_fits l sizes) i.op

-- where a type of a function is too large: block and place of the first instruction, or 0, 0 for its result and parameters
abbrev pub function_large : Layout → List Extent → Function → Option (ℕ × ℕ)
function_large l sizes f = unless (head_fits l sizes f) (first_instr (instr_fits l sizes) f.blocks)

-- where a type of globals and functions is too large, by the sizes of named types
abbrev pub large_with : Layout → List Extent → Module → Option FaultPlace
large_with l sizes m = unless_whole (list_all (global_fits l sizes) m.globals) (first_place (λ k. function_large l sizes) m.functions)

-- where a type is too large: named types and those of globals at 0, 0, 0
abbrev pub large_of : Layout → Module → Option FaultPlace
large_of l m = unless_whole (named_fit l m.types) (large_with l (sizes_of l m.types) m)

-- the sizes of named types where no type is too large, and otherwise the first place
abbrev pub IsLargeAnswer : Layout → Module → Result (List Extent) FaultPlace → Type 0
IsLargeAnswer l m (Ok sizes) = (sizes ≡ sizes_of l m.types) × (large_of l m ≡ None)
IsLargeAnswer l m (Err place) = large_of l m ≡ Some place
