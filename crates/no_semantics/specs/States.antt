-- States of a run (docs/LANGUAGE.md, "Running").
use Rattle.std.specs.Prelude.{ℕ, ◌≡◌, ◌+◌, Bool, false, List, slice_get, slice_set, Option, Some, None}
use Rattle.no_ir.specs.declared.function.Block.{Block}
use Rattle.no_ir.specs.declared.function.Function.{Function}
use Rattle.no_ir.specs.declared.function.Module.{Module}
use Rattle.no_ir.specs.declared.instruction.Instr.{Instr}
use Rattle.no_heap.specs.declared.block.Block as heap'
use Rattle.no_semantics.specs.Registers.{Registers, given}
use Rattle.no_semantics.specs.Values.{Program}
pub use Rattle.no_sound.specs.Blocks.{block_in}

-- a call of a function that goes on: the place of its next instruction, what its registers hold, and the stack pointer that comes back with its return
pub record Frame : Type 0 where
  pub function : ℕ
  pub block : ℕ
  pub at : ℕ
  pub registers : Registers
  pub saved : ℕ

-- The state between two instructions. Callers stand at their calls, the newest first. Of the input it has all that is left.
pub record State : Type 0 where
  pub frame : Frame
  pub callers : List Frame
  pub sp : ℕ
  pub byte : ℕ → ℕ
  pub heap : List heap'.Block
  pub input : List ℕ

-- ---- places

-- function k of a program
abbrev pub function_at : Program → ℕ → Option Function
function_at p k = slice_get p.«module».functions k

-- no instruction of a module is marked as one that costs nothing
abbrev pub HasNoMarks : Module → Type 0
HasNoMarks m = (k b at : ℕ) (i : Instr) → given None (block_in m k b) (λ (x : Block). slice_get x.instrs at) ≡ Some i → i.inserted ≡ false

-- block b of function k of a program
abbrev pub block_at : Program → ℕ → ℕ → Option Block
block_at p k b = block_in p.«module» k b

-- the next instruction of a frame, none where nothing stands at its place
abbrev pub instr_at : Program → Frame → Option Instr
instr_at p f = given None (block_at p f.function f.block) (λ (b : Block). slice_get b.instrs f.at)

-- ---- results

-- a register gets a number
abbrev pub put : ℕ → ℕ → Registers → Registers
put r n registers = slice_set registers r (Some n)

-- a result gets a number, where the instruction has a register for it
abbrev pub put_into : Option ℕ → ℕ → Registers → Registers
put_into None n registers = registers
put_into (Some r) n registers = put r n registers

-- the next instruction comes
abbrev pub moved : Frame → Frame
moved f = record f { at = f.at + 1 }

-- the result gets a number, and the next instruction comes
abbrev pub assigned : Option ℕ → ℕ → Frame → Frame
assigned into n f = record f { at = f.at + 1; registers = put_into into n f.registers }

-- the same of a call: what it gives and nothing takes is dropped, and where it gives nothing, nothing is assigned
abbrev pub answered : Option ℕ → Option ℕ → Frame → Option Frame
answered None value f = Some (moved f)
answered (Some r) (Some n) f = Some (assigned (Some r) n f)
answered (Some r) None f = Some (moved f)
