-- What the verifier finds of a program, function by function and instruction by instruction, in the form that runs need.
use Rattle.std.specs.Prelude.{ℕ, ◌+◌, ◌<◌, ◌≤◌, ◌≡◌, true, false, List, [], ◌∷◌, length, slice_get, Option, Some, None, if◌then◌else◌}
use Rattle.std.specs.List.{Contains}
use Rattle.no_ir.specs.declared.types.Ty.{Ty}
use Rattle.no_ir.specs.declared.instruction.Operand.{Operand}
use Rattle.no_ir.specs.declared.instruction.Operand.TheVariants as operand
use Rattle.no_ir.specs.declared.instruction.Op.{Op}
use Rattle.no_ir.specs.declared.instruction.Op.TheVariants as op
use Rattle.no_ir.specs.declared.instruction.Instr.{Instr}
use Rattle.no_ir.specs.declared.function.Block.{Block}
use Rattle.no_ir.specs.declared.function.Function.{Function}
use Rattle.no_module.specs.Instructions.{is_phi, is_terminator}
use Rattle.no_module.specs.declared.external.External.{External}
use Rattle.no_module.specs.Externals.{external_of}
use Rattle.no_module.specs.Functions.{is_declared}
use Rattle.no_module.specs.Scalars.{is_void}
use Rattle.no_verify_types.specs.Typing.{direct}
use Rattle.no_verify_paths.specs.Paths.{code_of, block_of, successors, IsAssigned}
use Rattle.no_eval.specs.Cast.{GoesBetween}
use Rattle.no_semantics.specs.Registers.{constant_number}
use Rattle.no_semantics.specs.States.{function_at}
use Rattle.no_semantics.specs.Taken.{is_callable}
use Rattle.no_semantics.specs.Calls.{has_type}
use Rattle.no_semantics.specs.Control.{block_number, taken}
use Rattle.no_semantics.specs.Values.{Program, width_of}

-- a property of each element
abbrev pub Each : {A : Type 0} → (A → Type 0) → List A → Type 0
Each P [] = Unit {0}
Each P (x ∷ xs) = P x × Each P xs

-- ---- operands and results, by the width of each register of a function; one that nothing reads may have none

-- an operand of w bits: a register of that width, or a constant that is a number
abbrev pub Reads : Program → (ℕ → Option ℕ) → ℕ → Operand → Type 0
Reads p width w (operand.Reg r) = width r ≡ Some w
Reads p width w (operand.Const c) = (n : ℕ) × (constant_number p c ≡ Some n)

-- an operand of a type: a register of its width, or a constant that is a number
abbrev pub ReadsOf : Program → (ℕ → Option ℕ) → Ty → Operand → Type 0
ReadsOf p width t o = Reads p width (width_of p.layout t) o

-- a result of w bits: its register is one of the function's, and of that width
abbrev pub Gives : ℕ → (ℕ → Option ℕ) → Option ℕ → ℕ → Type 0
Gives count width into w = (r : ℕ) → into ≡ Some r → (r < count) × (width r ≡ Some w)

-- an instruction that gives nothing: nothing reads the register that its result names
abbrev pub Idle : (ℕ → Option ℕ) → Option ℕ → Type 0
Idle width into = (r : ℕ) → into ≡ Some r → width r ≡ None

-- the width of what a function gives, none where it gives nothing
abbrev pub bits : Program → Ty → Option ℕ
bits p t = if is_void t then None else Some (width_of p.layout t)

-- the result of a call, which may give nothing
abbrev pub Answers : ℕ → (ℕ → Option ℕ) → Option ℕ → Option ℕ → Type 0
Answers count width into None = Idle width into
Answers count width into (Some w) = Gives count width into w

-- ---- edges

-- a phi takes an operand of its type behind the block of a label
pub record PhiFits (p : Program) (count : ℕ) (width : ℕ → Option ℕ) (l : ℕ) (into : Option ℕ) (t : Ty) (pairs : List (Operand × ℕ)) : Type 0 where
  pub operand : Operand
  pub is : taken l pairs ≡ Some operand
  pub reads : ReadsOf p width t operand
  pub gives : Gives count width into (width_of p.layout t)

-- a phi fits, and so do the others behind it; nothing is asked of any other instruction, with which the phis end
abbrev pub FrontFits : Program → ℕ → (ℕ → Option ℕ) → ℕ → Option ℕ → Op → Type 0 → Type 0
FrontFits p count width l into (op.Phi t pairs) others = PhiFits p count width l into t pairs × others
FrontFits p count width l into _ others = Unit {0}

-- so do all phis that a block begins with
abbrev pub EdgeFits : Program → ℕ → (ℕ → Option ℕ) → ℕ → List Instr → Type 0
EdgeFits p count width l [] = Unit {0}
EdgeFits p count width l (i ∷ more) = FrontFits p count width l i.result i.op (EdgeFits p count width l more)

-- a label of a terminator of block b leads to a block, which is a successor and whose phis take something behind b
pub record IsTarget (p : Program) (g : Function) (width : ℕ → Option ℕ) (b l : ℕ) : Type 0 where
  pub from : Block
  pub from_is : slice_get g.blocks b ≡ Some from
  pub home : block_of g from.label ≡ Some b
  pub to : ℕ
  pub to_is : block_number g l ≡ Some to
  pub block : Block
  pub block_is : slice_get g.blocks to ≡ Some block
  pub follows : Contains (successors g b) to
  pub phis : EdgeFits p (length g.registers) width from.label block.instrs

-- ---- calls

-- a declared function that may be called is an external
abbrev pub IsKnown : Program → Function → Type 0
IsKnown p g = is_declared g ≡ true → (e : External) × (external_of p.role g ≡ Some e)

-- a direct call is one of its function's type
pub record IsDirect (p : Program) (t : Ty) (args : List (Ty × Operand)) (k : ℕ) : Type 0 where
  pub function : Function
  pub is : function_at p k ≡ Some function
  pub typed : has_type t args function ≡ true
  pub known : IsKnown p function

-- a direct call is one of its function's type, and any other callee is an operand of the pointer's width
abbrev pub CalleeFits : Program → (ℕ → Option ℕ) → Ty → Operand → List (Ty × Operand) → Option ℕ → Type 0
CalleeFits p width t callee args (Some k) = IsDirect p t args k
CalleeFits p width t callee args None = Reads p width p.layout.pointer callee

-- ---- instructions

-- a stated count of an alloca is an operand of its width
abbrev pub CountFits : Program → (ℕ → Option ℕ) → Option (ℕ × Operand) → Type 0
CountFits p width None = Unit {0}
CountFits p width (Some count) = Reads p width count.0 count.1

-- what is returned is of the width that the function gives; nothing is, where it gives nothing
abbrev pub ReturnFits : Program → (ℕ → Option ℕ) → Ty → Option (Ty × Operand) → Type 0
ReturnFits p width result None = bits p result ≡ None
ReturnFits p width result (Some x) = (bits p result ≡ Some (width_of p.layout x.0)) × ReadsOf p width x.0 x.1

-- an instruction of block b reads operands of its widths, gives a result of its width, and names labels that lead somewhere
abbrev pub OpFits : Program → Function → (ℕ → Option ℕ) → ℕ → Option ℕ → Op → Type 0
OpFits p g width b into (op.Binary o w x y) = Reads p width w x × Reads p width w y × Gives (length g.registers) width into w
OpFits p g width b into (op.Compare o t x y) = ReadsOf p width t x × ReadsOf p width t y × Gives (length g.registers) width into 1
OpFits p g width b into (op.Cast o t x u) = ReadsOf p width t x × GoesBetween o (width_of p.layout t) (width_of p.layout u) × Gives (length g.registers) width into (width_of p.layout u)
OpFits p g width b into (op.Freeze t x) = ReadsOf p width t x × Gives (length g.registers) width into (width_of p.layout t)
OpFits p g width b into (op.Select c t x y) = Reads p width 1 c × ReadsOf p width t x × ReadsOf p width t y × Gives (length g.registers) width into (width_of p.layout t)
OpFits p g width b into (op.Phi t pairs) = Unit {0}
OpFits p g width b into (op.Alloca t count align) = CountFits p width count × Gives (length g.registers) width into p.layout.pointer
OpFits p g width b into (op.Load volatile t x) = Reads p width p.layout.pointer x × Gives (length g.registers) width into (width_of p.layout t)
OpFits p g width b into (op.Store volatile t v x) = ReadsOf p width t v × Reads p width p.layout.pointer x × Idle width into
OpFits p g width b into (op.Gep t x indices) = Reads p width p.layout.pointer x × Each (λ (i : ℕ × Operand). Reads p width i.0 i.1) indices × Gives (length g.registers) width into p.layout.pointer
OpFits p g width b into (op.Call t callee args) = CalleeFits p width t callee args (direct callee) × Each (λ (a : Ty × Operand). ReadsOf p width a.0 a.1) args × Answers (length g.registers) width into (bits p t)
OpFits p g width b into (op.Br l) = IsTarget p g width b l
OpFits p g width b into (op.CondBr c l k) = Reads p width 1 c × IsTarget p g width b l × IsTarget p g width b k
OpFits p g width b into (op.Switch w x l cases) = Reads p width w x × IsTarget p g width b l × Each (λ (c : ℕ × ℕ). IsTarget p g width b c.1) cases
OpFits p g width b into (op.Ret value) = ReturnFits p width g.result value
OpFits p g width b into op.Unreachable = Unit {0}

-- ---- functions and programs

-- what the verifier finds of a defined function: the form of its blocks, the widths of its registers, and that they are assigned before use
pub record IsProper (p : Program) (g : Function) : Type 0 where
  -- the width of each register
  pub width : ℕ → Option ℕ
  pub params : Each (λ (q : ℕ × Ty). (q.0 < length g.registers) × (width q.0 ≡ Some (width_of p.layout q.1))) g.params
  -- each block has an instruction
  pub some : (b : ℕ) → b < length g.blocks → 0 < length (code_of g b)
  -- behind what does not end a block stands an instruction, and none behind what does
  pub inner : (b k : ℕ) (i : Instr) → slice_get (code_of g b) k ≡ Some i → is_terminator i.op ≡ false → k + 1 < length (code_of g b)
  pub last : (b k : ℕ) (i : Instr) → slice_get (code_of g b) k ≡ Some i → is_terminator i.op ≡ true → k + 1 ≡ length (code_of g b)
  -- the entry begins with no phi, and before a phi stand phis alone
  pub entry : (i : Instr) → slice_get (code_of g 0) 0 ≡ Some i → is_phi i.op ≡ false
  pub lead : (b k : ℕ) (i j : Instr) → slice_get (code_of g b) k ≡ Some i → slice_get (code_of g b) (k + 1) ≡ Some j → is_phi j.op ≡ true → is_phi i.op ≡ true
  pub fits : (b k : ℕ) (i : Instr) → slice_get (code_of g b) k ≡ Some i → OpFits p g width b i.result i.op
  pub idle : (b k : ℕ) (i : Instr) → slice_get (code_of g b) k ≡ Some i → is_terminator i.op ≡ true → Idle width i.result
  pub paths : IsAssigned g

-- what the verifier finds of a program, so that no run of it gets stuck
pub record IsSafe (p : Program) : Type 0 where
  pub pointer : 32 ≤ p.layout.pointer
  pub few : length p.«module».functions ≤ 65536
  -- each defined function is proper
  pub defined : (k : ℕ) (g : Function) → function_at p k ≡ Some g → is_declared g ≡ false → IsProper p g
  -- each function that may be called through a pointer is defined or an external
  pub callable : (k : ℕ) (g : Function) → function_at p k ≡ Some g → is_callable p.«module» p.role k g ≡ true → IsKnown p g
