-- What one turn of the machine does: one instruction that needs nothing from outside.
use Rattle.std.specs.Prelude.{ℕ, ◌≡◌, Bool, true, Option, Some, List, [], slice_get}
use Rattle.no_ir.specs.declared.function.Function.{Function}
use Rattle.no_ir.specs.declared.function.Module.{Module}
use Rattle.no_ir.specs.declared.instruction.Instr.{Instr}
use Rattle.no_ir.specs.declared.instruction.Op.TheVariants as op
use Rattle.no_ir.specs.declared.instruction.Operand.{Operand}
use Rattle.no_ir.specs.declared.types.Ty.{Ty}
use Rattle.no_layout.specs.Memory.{Agrees}
use Rattle.no_layout.specs.declared.memory.Regions.{Regions}
use Rattle.no_module.specs.Functions.{is_declared}
use Rattle.no_semantics.specs.Accepted.{Accepted}
use Rattle.no_semantics.specs.Acting.{row}
use Rattle.no_semantics.specs.Rows.{Calling, Goes, Leaves, Stuck, needed, plain, trapping}
use Rattle.no_semantics.specs.Spans.{AreHeld, IsLowestAbsent}
use Rattle.no_semantics.specs.States.{HasNoMarks, State, instr_at}
use Rattle.no_semantics.specs.Steps.{Steps}
use Rattle.no_semantics.specs.Values.{Program}
use Rattle.no_semantics.specs.Sound.{is_sound}
use Rattle.no_code.specs.Source.{source}
use Rattle.no_code.specs.Whole.{IsCode}
use Rattle.no_code.specs.declared.code.Cell.{Cell}
use Rattle.no_code.specs.declared.code.Code.{Code}
use Rattle.no_machine.specs.Standing.{Stands}
use Rattle.no_machine.specs.declared.frame.Saved.{Saved}
use Rattle.no_machine.specs.declared.turn.Stop.{Stop}
use Rattle.no_machine.specs.declared.turn.Stop.TheVariants as stop
use Rattle.no_machine.specs.declared.turn.Turn.{Turn}
use Rattle.no_machine.specs.declared.turn.Turn.TheVariants as turn

-- ---- programs

-- the program of an accepted module, with the addresses of its globals and the regions of a memory
abbrev pub program_with : Accepted → List ℕ → Regions → Program
program_with a addresses regions = record {
  «module» = a.«module»;
  layout = a.layout;
  sizes = a.sizes;
  addresses = addresses;
  regions = regions;
  role = a.role;
}

-- for each function whether it is declared
abbrev pub AreDeclared : Module → List Bool → Type 0
AreDeclared m declared = (k : ℕ) (g : Function) → slice_get m.functions k ≡ Some g → slice_get declared k ≡ Some (is_declared g)

-- ---- states

-- no run from a state gets stuck
abbrev pub NeverStuck : Program → State → Type 0
NeverStuck p s = (bytes : List ℕ) (count : ℕ) (t : State) → Steps p s bytes count t → (row p t).next ≡ Stuck → ⊥

-- a machine stands for a state from which no run gets stuck, over a memory of which it has pages
pub record IsHere (p : Program) (at base sp : ℕ) (slots : List ℕ) (frames : List Saved) (held : ℕ → Bool) (byte : ℕ → ℕ) (s : State) : Type 0 where
  pub stands : Stands p at base sp slots frames s
  pub agrees : Agrees held byte s.byte
  pub never : NeverStuck p s

-- ---- turns

-- an instruction was done, and the machine stands for the state that follows
pub record HasTurned (p : Program) (at base sp : ℕ) (slots : List ℕ) (frames : List Saved) (held : ℕ → Bool) (byte : ℕ → ℕ) (s : State) : Type 0 where
  pub state : State
  pub call : Option Calling
  pub next : (row p s).next ≡ Goes [] call state
  pub cost : (row p s).cost ≡ 1
  pub stands : Stands p at base sp slots frames state
  pub heap : state.heap ≡ s.heap
  pub input : state.input ≡ s.input
  pub agrees : Agrees held byte state.byte
  pub present : AreHeld held (needed (row p s))

-- the machine stands where it stood
pub record IsStill (p : Program) (at base sp : ℕ) (slots : List ℕ) (frames : List Saved) (byte after : ℕ → ℕ) (s : State) : Type 0 where
  pub stands : Stands p at base sp slots frames s
  pub bytes : after ≡ byte

-- the next instruction is a call
pub record IsCalling (p : Program) (s : State) : Type 0 where
  pub instr : Instr
  pub is : instr_at p s.frame ≡ Some instr
  pub result : Ty
  pub callee : Operand
  pub arguments : List (Ty × Operand)
  pub calls : instr.op ≡ op.Call result callee arguments

-- why it did none
abbrev pub Stopped : Program → Stop → (ℕ → Bool) → State → Type 0
Stopped p stop.Grow held s = Unit {0}
Stopped p stop.NoMemory held s = Unit {0}
Stopped p (stop.Trapped t) held s = row p s ≡ trapping t
Stopped p (stop.WantPage page) held s = ((row p s).cost ≡ 1) × IsLowestAbsent held (needed (row p s)) page
Stopped p (stop.Left v) held s = row p s ≡ plain (Leaves v)
Stopped p stop.Outside held s = IsCalling p s
Stopped p stop.Spent held s = ⊥

-- a turn at a state, by its answer
abbrev pub Turned : Program → Turn → ℕ → ℕ → ℕ → List ℕ → List Saved → (ℕ → Bool) → (ℕ → ℕ) → (ℕ → ℕ) → State → Type 0
Turned p (turn.On to there) at base sp slots frames held byte after s = HasTurned p to there sp slots frames held after s
Turned p (turn.Halt _ _ why) at base sp slots frames held byte after s = Stopped p why held s × IsStill p at base sp slots frames byte after s

-- ---- what stays the same while a program runs

-- code that was made of an accepted module without marks, its parts, which functions are declared, and the layout's order and pointer
pub record AreFacts (a : Accepted) (addresses : List ℕ) (code : Code) (cells : List Cell) (constants : List ℕ) (declared : List Bool) (big : Bool) (pointer : ℕ) : Type 0 where
  pub sound : is_sound a.«module» a.layout a.sizes ≡ true
  pub marks : HasNoMarks a.«module»
  pub is : IsCode (source a.«module» a.layout a.sizes addresses) code
  pub cells_are : cells ≡ code.cells
  pub constants_are : constants ≡ code.constants
  pub flags : AreDeclared a.«module» declared
  pub order : big ≡ a.layout.big
  pub width : pointer ≡ a.layout.pointer
