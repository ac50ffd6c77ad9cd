-- Terminators: each block has one, as its last instruction (LLVM Language Reference, "Functions", "Terminator Instructions").
use Rattle.std.specs.Prelude.{ℕ, ◌+◌, ◌-◌, ◌==◌, Bool, not, List, length, Option, Some, None, if◌then◌else◌}
use Rattle.no_ir.specs.declared.instruction.Instr.{Instr}
use Rattle.no_ir.specs.declared.function.Block.{Block}
use Rattle.no_ir.specs.declared.function.Function.{Function}
use Rattle.no_ir.specs.declared.function.Module.{Module}
use Rattle.no_verify_types.specs.declared.place.FaultPlace.{FaultPlace}
use Rattle.no_verify_structure.specs.Finding.{first_break, first_at, first_place}
use Rattle.no_module.specs.Instructions.{is_terminator}

-- the first terminator of a block
abbrev pub first_terminator : List Instr → Option ℕ
first_terminator instrs = first_break (λ i (instr : Instr). not (is_terminator instr.op)) 0 instrs

-- the fault in a block of so many instructions whose first terminator is this: an earlier one than the last instruction,
-- or with none the last instruction, which in an empty block is place 0
abbrev pub ending_fault : ℕ → Option ℕ → Option ℕ
ending_fault count None = Some (count - 1)
ending_fault count (Some i) = if i + 1 == count then None else Some i

-- the instruction of a block that is out of place: a terminator before the last instruction, or a last one that is none
abbrev pub block_ending : Block → Option ℕ
block_ending b = ending_fault (length b.instrs) (first_terminator b.instrs)

-- block and place of the first such instruction of a function
abbrev pub function_ending : Function → Option (ℕ × ℕ)
function_ending f = first_at (λ b. block_ending) 0 f.blocks

-- where a block doesn't end with its one terminator
abbrev pub ending_of : Module → Option FaultPlace
ending_of m = first_place (λ k. function_ending) m.functions
