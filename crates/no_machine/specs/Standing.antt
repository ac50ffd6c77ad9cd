-- Where the machine stands: the frames of a state, the cells at which they stand, and the windows that hold their registers.
use Rattle.std.specs.Prelude.{ℕ, ◌+◌, ◌<◌, ◌≤◌, ◌≡◌, Bool, Some, None, List, [], ◌∷◌, ◌++◌, length, take, drop, slice_get}
use Rattle.no_ir.specs.declared.function.Function.{Function}
use Rattle.no_ir.specs.declared.function.Module.{Module}
use Rattle.no_ir.specs.declared.types.Ty.{Ty}
use Rattle.no_ir.specs.declared.instruction.Instr.{Instr}
use Rattle.no_ir.specs.declared.instruction.Op.TheVariants as op
use Rattle.no_ir.specs.declared.instruction.Operand.{Operand}
use Rattle.no_layout.specs.Memory.{Agrees}
use Rattle.no_semantics.specs.Registers.{Registers}
use Rattle.no_semantics.specs.Rows.{Row, Goes, needed, trapping}
use Rattle.no_semantics.specs.Spans.{AreHeld, IsLowestAbsent}
use Rattle.no_semantics.specs.States.{Frame, State, instr_at}
use Rattle.no_semantics.specs.Values.{Program, width_of}
use Rattle.no_code.specs.Coded.{IsCall, IsCallAt, before, first_cell}
use Rattle.no_code.specs.Slots.{IsInto, IsSlot, first_constant}
use Rattle.no_code.specs.declared.code.Code.{Code}
use Rattle.no_code.specs.Source.{Source, source}
use Rattle.no_machine.specs.declared.did.Did.{Did}
use Rattle.no_machine.specs.declared.did.Did.TheVariants as did
use Rattle.no_machine.specs.declared.frame.Saved.{Saved}

-- what code is made of
abbrev pub source_of : Program → Source
source_of p = source p.«module» p.layout p.sizes p.addresses

-- ---- frames

-- A window holds what the registers do that were assigned; what stands in the slots of others is never read. One slot more takes what nobody reads.
pub record Covers (registers : Registers) (window : List ℕ) : Type 0 where
  pub few : length registers < first_constant
  pub room : length registers < length window
  pub each : (r n : ℕ) → slice_get registers r ≡ Some (Some n) → slice_get window r ≡ Some n

-- a frame stands at a cell, and its registers are in a window
pub record IsFrameAt (m : Module) (f : Frame) (at : ℕ) (window : List ℕ) : Type 0 where
  pub function : Function
  pub is : slice_get m.functions f.function ≡ Some function
  pub long : length f.registers ≡ length function.registers
  pub place : at ≡ first_cell m.functions f.function + before function.blocks f.block + f.at
  pub covers : Covers f.registers window

-- ---- callers

-- what is kept of a caller: the cell behind its call, its window's base, the slot of the call's result, and the stack pointer that comes back
pub record IsWaiting (p : Program) (c : Frame) (sp : ℕ) (w : Saved) (below : List ℕ) : Type 0 where
  pub base : w.base ≤ length below
  pub at : ℕ
  pub next : w.next ≡ at + 1
  pub frame : IsFrameAt p.«module» c at (drop w.base below)
  pub result : (i : Instr) → instr_at p c ≡ Some i → IsInto (length c.registers) i.result w.into
  pub sp_is : w.sp ≡ sp

-- each caller waits below the frame that it called
abbrev pub AreWaiting : Program → ℕ → List Frame → List Saved → List ℕ → Type 0
AreWaiting p sp [] frames below = frames ≡ []
AreWaiting p sp (c ∷ callers) frames below =
    (front : List Saved) × (w : Saved) × (frames ≡ front ++ w ∷ []) × IsWaiting p c sp w below × AreWaiting p c.saved callers front (take w.base below)

-- ---- states

-- a machine stands for a state: its cell, the base of its frame's window, the stack pointer, the slots, and what is kept of the callers
pub record Stands (p : Program) (at base sp : ℕ) (slots : List ℕ) (frames : List Saved) (s : State) : Type 0 where
  pub inside : base ≤ length slots
  pub frame : IsFrameAt p.«module» s.frame at (drop base slots)
  pub callers : AreWaiting p s.frame.saved s.callers frames (take base slots)
  pub sp_is : s.sp ≡ sp

-- ---- what an instruction did

-- it was done in its frame, which stands at a cell then
pub record HasGone (p : Program) (at : ℕ) (window : List ℕ) (sp : ℕ) (held : ℕ → Bool) (byte : ℕ → ℕ) (s : State) (row : Row) : Type 0 where
  pub state : State
  pub next : row.next ≡ Goes [] None state
  pub cost : row.cost ≡ 1
  pub frame : IsFrameAt p.«module» state.frame at window
  pub saved : state.frame.saved ≡ s.frame.saved
  pub callers : state.callers ≡ s.callers
  pub sp_is : state.sp ≡ sp
  pub heap : state.heap ≡ s.heap
  pub input : state.input ≡ s.input
  pub agrees : Agrees held byte state.byte
  pub present : AreHeld held (needed row)

-- nothing changed
pub record IsSame (old new : List ℕ) (byte after : ℕ → ℕ) (sp sp_after : ℕ) : Type 0 where
  pub slots : new ≡ old
  pub bytes : after ≡ byte
  pub stack : sp_after ≡ sp

-- what a cell meant that stays in its frame, by what it did
abbrev pub Means : Program → ℕ → List ℕ → List ℕ → ℕ → ℕ → (ℕ → Bool) → (ℕ → ℕ) → (ℕ → ℕ) → State → Row → Did → Type 0
Means p at old new sp sp_after held byte after s row did.Next = HasGone p (at + 1) new sp_after held after s row
Means p at old new sp sp_after held byte after s row (did.To target) = HasGone p target new sp_after held after s row
Means p at old new sp sp_after held byte after s row (did.Trapped t) = (row ≡ trapping t) × IsSame old new byte after sp sp_after
Means p at old new sp sp_after held byte after s row (did.WantPage page) = (row.cost ≡ 1) × IsLowestAbsent held (needed row) page × IsSame old new byte after sp sp_after
Means p at old new sp sp_after held byte after s row did.NoMemory = IsSame old new byte after sp sp_after
Means p at old new sp sp_after held byte after s row _ = ⊥

-- a return of what a slot holds
pub record IsReturn (p : Program) (n : ℕ) (code : Code) (x : ℕ) (i : Instr) : Type 0 where
  pub t : Ty
  pub a : Operand
  pub is : i.op ≡ op.Ret (Some (t, a))
  pub value : IsSlot (source_of p) n code.constants (width_of p.layout t) a x

-- the same of all cells of an instruction: calls and returns are told
abbrev pub Says : Program → Code → Instr → ℕ → List ℕ → List ℕ → ℕ → ℕ → (ℕ → Bool) → (ℕ → ℕ) → (ℕ → ℕ) → State → Row → Did → Type 0
Says p code i at old new sp sp_after held byte after s row (did.Calls into f from to) = IsCall (source_of p) (length s.frame.registers) code into f from to i × IsSame old new byte after sp sp_after
Says p code i at old new sp sp_after held byte after s row (did.CallsAt into from to) = IsCallAt (source_of p) (length s.frame.registers) code into from to i × IsSame old new byte after sp sp_after
Says p code i at old new sp sp_after held byte after s row (did.Returns x) = IsReturn p (length s.frame.registers) code x i × IsSame old new byte after sp sp_after
Says p code i at old new sp sp_after held byte after s row did.Leaves = (i.op ≡ op.Ret None) × IsSame old new byte after sp sp_after
Says p code i at old new sp sp_after held byte after s row d = Means p at old new sp sp_after held byte after s row d
