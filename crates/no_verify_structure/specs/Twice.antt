-- Names that are defined a second time: globals and functions are one kind of names; registers and labels are two, in each function for itself.
use Rattle.std.specs.Prelude.{ℕ, Bool, true, false, ◌&&◌, not, is_some, if◌then◌else◌, List, [], ◌∷◌, ◌++◌, map, take, Option, Some, None}
use Rattle.std.specs.List.{flat_map}
use Rattle.no_ir.specs.Naming.{is_known}
use Rattle.no_ir.specs.declared.types.Ty.{Ty}
use Rattle.no_ir.specs.declared.instruction.Instr.{Instr}
use Rattle.no_ir.specs.declared.function.Block.{Block}
use Rattle.no_ir.specs.declared.function.Function.{Function}
use Rattle.no_ir.specs.declared.function.GlobalVar.{GlobalVar}
use Rattle.no_ir.specs.declared.function.Module.{Module}
use Rattle.no_verify_types.specs.declared.place.FaultPlace.{FaultPlace}
use Rattle.no_verify_structure.specs.Finding.{first_break, first_at, first_place, unless, unless_whole}
use Rattle.no_verify_structure.specs.Names.{is_in, instr_registers, block_registers, parameters_of, blocks_labels, globals_names, functions_names}

-- ---- registers and labels of a function

-- the registers of parameters, in order
abbrev pub parameter_registers : List (ℕ × Ty) → List ℕ
parameter_registers params = map (λ p. p.0) params

-- each parameter has another register than those before it
abbrev pub params_differ : List (ℕ × Ty) → Bool
params_differ params = not (is_some (first_break (λ k (p : ℕ × Ty). not (is_in (parameter_registers (take k params)) p.0)) 0 params))

-- a result is none of the registers that are defined before it
abbrev pub is_new : List ℕ → Option ℕ → Bool
is_new before None = true
is_new before (Some r) = not (is_in before r)

-- the first instruction of a block whose result is defined before the block or by an earlier instruction of it
abbrev pub result_twice : List ℕ → List Instr → Option ℕ
result_twice before instrs = first_break (λ i (instr : Instr). is_new (before ++ flat_map instr_registers (take i instrs)) instr.result) 0 instrs

-- the registers that are defined before block b: the parameters, and results in earlier blocks
abbrev pub registers_before : Function → ℕ → List ℕ
registers_before f b = parameters_of f ++ flat_map block_registers (take b f.blocks)

-- the first place of a block behind these labels and registers; that of its label is 0
abbrev pub twice_behind : List ℕ → List ℕ → Block → Option ℕ
twice_behind labels registers block = if is_in labels block.label then Some 0 else result_twice registers block.instrs

-- the first place of block b at which its label, or a result, is defined a second time
abbrev pub block_twice : Function → ℕ → Block → Option ℕ
block_twice f b block = twice_behind (blocks_labels (take b f.blocks)) (registers_before f b) block

-- ---- globals and functions

-- each global has another name than those before it
abbrev pub globals_differ : List GlobalVar → Bool
globals_differ globals = not (is_some (first_break (λ k (g : GlobalVar). not (is_known (globals_names (take k globals)) g.name)) 0 globals))

-- the names of all globals, and of the functions before function k
abbrev pub names_before : Module → ℕ → List (List ℕ)
names_before m k = globals_names m.globals ++ functions_names (take k m.functions)

-- a function's name and its parameters are at its block 0, place 0
abbrev pub function_twice : Module → ℕ → Function → Option (ℕ × ℕ)
function_twice m k f = unless (not (is_known (names_before m k) f.name) && params_differ f.params) (first_at (block_twice f) 0 f.blocks)

-- where a name is defined a second time: a global's at 0, 0, 0, and that of a global and a function at the function
abbrev pub twice_of : Module → Option FaultPlace
twice_of m = unless_whole (globals_differ m.globals) (first_place (function_twice m) m.functions)
