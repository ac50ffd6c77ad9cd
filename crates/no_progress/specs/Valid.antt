-- When a state is one of a program.
use Rattle.std.specs.Prelude.{ℕ, ◌^◌, ◌<◌, ◌≤◌, ◌≡◌, true, false, List, [], ◌∷◌, length, slice_get, Option, Some}
use Rattle.no_ir.specs.declared.types.Ty.{Ty}
use Rattle.no_ir.specs.declared.instruction.Operand.{Operand}
use Rattle.no_ir.specs.declared.instruction.Op.TheVariants as op
use Rattle.no_ir.specs.declared.instruction.Instr.{Instr}
use Rattle.no_ir.specs.declared.function.Function.{Function}
use Rattle.no_heap.specs.Blocks.{AreLive}
use Rattle.no_layout.specs.Memory.{stack_start, stack_end}
use Rattle.no_module.specs.Instructions.{is_phi}
use Rattle.no_module.specs.Functions.{is_declared}
use Rattle.no_verify_paths.specs.Paths.{code_of, PathTo, assigned_at}
use Rattle.no_semantics.specs.Registers.{Registers}
use Rattle.no_semantics.specs.Rows.{Next, Goes, Leaves, Ends, Stuck}
use Rattle.no_semantics.specs.States.{Frame, State, function_at}
use Rattle.no_semantics.specs.Values.{Program}
use Rattle.no_progress.specs.Proper.{IsSafe, Each, Answers, bits}

-- a register that something may read holds a number of its width
abbrev pub Held : (ℕ → Option ℕ) → Registers → ℕ → Type 0
Held width registers r = (w : ℕ) → width r ≡ Some w → (n : ℕ) × (slice_get registers r ≡ Some (Some n)) × (n < 2 ^ w)

-- a stack pointer lies in the stack or at its upper end
abbrev pub IsOnStack : ℕ → Type 0
IsOnStack sp = (stack_start ≤ sp) × (sp ≤ stack_end)

-- A frame stands at an instruction of its function, and no phi. Some path leads there along which each register that is assigned holds a number of its width.
pub record IsFrameOf (p : Program) (safe : IsSafe p) (f : Frame) : Type 0 where
  pub function : Function
  pub function_is : function_at p f.function ≡ Some function
  pub is_defined : is_declared function ≡ false
  pub long : length f.registers ≡ length function.registers
  pub instr : Instr
  pub instr_is : slice_get (code_of function f.block) f.at ≡ Some instr
  pub plain : is_phi instr.op ≡ false
  pub before : List ℕ
  pub path : PathTo function f.block before
  pub holds : (r : ℕ) → assigned_at function before f.block f.at r ≡ true → Held (safe.defined f.function function function_is is_defined).width f.registers r
  pub saved : IsOnStack f.saved

-- a frame waits in a call for a number of so many bits, or for none
pub record IsCallerOf (p : Program) (safe : IsSafe p) (given' : Option ℕ) (c : Frame) : Type 0 where
  pub stands : IsFrameOf p safe c
  pub type : Ty
  pub callee : Operand
  pub arguments : List (Ty × Operand)
  pub is_call : stands.instr.op ≡ op.Call type callee arguments
  pub answers : Answers (length stands.function.registers) (safe.defined c.function stands.function stands.function_is stands.is_defined).width stands.instr.result given'

-- each caller waits for what the frame that it called gives
abbrev pub AreCallers : (p : Program) → IsSafe p → Option ℕ → List Frame → Type 0
AreCallers p safe given' [] = Unit {0}
AreCallers p safe given' (c ∷ callers) = (w : IsCallerOf p safe given' c) × AreCallers p safe (bits p w.stands.function.result) callers

-- a state is one of a program: its frame, its callers, its stack pointer, its live blocks, and bytes as its input
pub record IsStateOf (p : Program) (safe : IsSafe p) (s : State) : Type 0 where
  pub frame : IsFrameOf p safe s.frame
  pub callers : AreCallers p safe (bits p frame.function.result) s.callers
  pub sp : IsOnStack s.sp
  pub heap : AreLive s.heap
  pub input : Each (λ (b : ℕ). b < 256) s.input

-- what comes next is not stuck, and where the run goes on, it does so in a state of the program
abbrev pub Fine : (p : Program) → IsSafe p → Next → Type 0
Fine p safe (Goes bytes call t) = IsStateOf p safe t
Fine p safe (Leaves value) = Unit {0}
Fine p safe (Ends end) = Unit {0}
Fine p safe Stuck = ⊥
