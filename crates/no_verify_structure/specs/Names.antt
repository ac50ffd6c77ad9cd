-- What a function defines: registers and labels (LLVM Language Reference, "Identifiers", "Functions").
use Rattle.std.specs.Prelude.{ℕ, Bool, nat_eq, if◌then◌else◌, List, [], ◌∷◌, ◌++◌, map, Option, Some, None}
use Rattle.std.specs.List.{flat_map, list_any}
use Rattle.no_ir.specs.declared.types.Ty.{Ty}
use Rattle.no_ir.specs.declared.instruction.Instr.{Instr}
use Rattle.no_ir.specs.declared.function.Block.{Block}
use Rattle.no_ir.specs.declared.function.Function.{Function}
use Rattle.no_ir.specs.declared.function.GlobalVar.{GlobalVar}

-- a number is among these
abbrev pub is_in : List ℕ → ℕ → Bool
is_in numbers n = list_any (nat_eq n) numbers

-- the numbers with one more, where it is not among them
abbrev pub with_number : List ℕ → ℕ → List ℕ
with_number numbers n = if is_in numbers n then numbers else numbers ++ n ∷ []

-- ---- registers

-- the register of a result, if there is one
abbrev pub result_registers : Option ℕ → List ℕ
result_registers None = []
result_registers (Some r) = r ∷ []

-- the register that an instruction assigns, if it assigns one
abbrev pub instr_registers : Instr → List ℕ
instr_registers i = result_registers i.result

-- the registers that the instructions of a block assign, in order
abbrev pub block_registers : Block → List ℕ
block_registers b = flat_map instr_registers b.instrs

-- the registers of a function's parameters, in order
abbrev pub parameters_of : Function → List ℕ
parameters_of f = map (λ p. p.0) f.params

-- the parameters, and the results of all instructions
abbrev pub registers_of : Function → List ℕ
registers_of f = parameters_of f ++ flat_map block_registers f.blocks

-- ---- labels

-- the labels of blocks, in order
abbrev pub blocks_labels : List Block → List ℕ
blocks_labels blocks = map (λ (b : Block). b.label) blocks

-- the labels that a function defines: those of its blocks
abbrev pub labels_defined : Function → List ℕ
labels_defined f = blocks_labels f.blocks

-- ---- symbols

-- the names of globals, in order
abbrev pub globals_names : List GlobalVar → List (List ℕ)
globals_names globals = map (λ (g : GlobalVar). g.name) globals

-- the names of functions, in order
abbrev pub functions_names : List Function → List (List ℕ)
functions_names functions = map (λ (f : Function). f.name) functions
