-- Symbols, registers and labels that are used and that nothing defines.
use Rattle.std.specs.Prelude.{ℕ, Bool, true, false, ◌&&◌, nat_lt, List, length, Option}
use Rattle.std.specs.List.{list_all}
use Rattle.no_ir.specs.declared.constant.Place.{Place}
use Rattle.no_ir.specs.declared.constant.Symbol.{Symbol}
use Rattle.no_ir.specs.declared.constant.Symbol.TheVariants as symbol
use Rattle.no_ir.specs.declared.instruction.Instr.{Instr}
use Rattle.no_ir.specs.declared.function.Function.{Function}
use Rattle.no_ir.specs.declared.function.GlobalVar.{GlobalVar}
use Rattle.no_ir.specs.declared.function.Module.{Module}
use Rattle.no_verify_types.specs.declared.place.FaultPlace.{FaultPlace}
use Rattle.no_verify_structure.specs.Finding.{first_instr, first_place, unless_whole}
use Rattle.no_verify_structure.specs.Names.{is_in, registers_of, labels_defined}
use Rattle.no_module.specs.Instructions.{labels_of}
use Rattle.no_verify_structure.specs.Parts.{constant_keeps, operands_keep}

-- a module has a global or a function of each number below their count
abbrev pub symbol_known : Module → Symbol → Bool
symbol_known m (symbol.Global k) = nat_lt k (length m.globals)
symbol_known m (symbol.Function k) = nat_lt k (length m.functions)
symbol_known m (symbol.Unknown name) = false

-- an address begins at a symbol that the module defines
abbrev pub place_known : Module → Place → Bool
place_known m place = symbol_known m place.symbol

-- each address in the first value of a global begins at such a symbol
abbrev pub global_known : Module → GlobalVar → Bool
global_known m g = constant_keeps (place_known m) g.init

-- an instruction names these registers and these labels alone, and symbols of the module
abbrev pub instr_known : Module → List ℕ → List ℕ → Instr → Bool
instr_known m registers labels i = operands_keep (is_in registers) (place_known m) i.op && list_all (is_in labels) (labels_of i.op)

-- registers and labels are those that the function defines anywhere
abbrev pub function_unknown : Module → Function → Option (ℕ × ℕ)
function_unknown m f = first_instr (instr_known m (registers_of f) (labels_defined f)) f.blocks

-- where a name is used that has no definition: that in a global's first value at 0, 0, 0
abbrev pub unknown_of : Module → Option FaultPlace
unknown_of m = unless_whole (list_all (global_known m) m.globals) (first_place (λ k. function_unknown m) m.functions)
