-- Branches: blocks by their labels, and what phis take on an edge (LLVM Language Reference, "Terminator Instructions", "phi Instruction").
use Rattle.std.specs.Prelude.{ℕ, zero, suc, ◌+◌, ◌==◌, if◌then◌else◌, List, [], ◌∷◌, slice_get, Option, Some, None}
use Rattle.no_ir.specs.declared.types.Ty.{Ty}
use Rattle.no_ir.specs.declared.instruction.Operand.{Operand}
use Rattle.no_ir.specs.declared.instruction.Op.{Op}
use Rattle.no_ir.specs.declared.instruction.Op.TheVariants as op
use Rattle.no_ir.specs.declared.instruction.Instr.{Instr}
use Rattle.no_ir.specs.declared.function.Block.{Block}
use Rattle.no_ir.specs.declared.function.Function.{Function}
use Rattle.no_semantics.specs.Registers.{Registers, given, with_front, operand, operand_of}
use Rattle.no_semantics.specs.Rows.{Row, stuck, in_frame}
use Rattle.no_semantics.specs.States.{Frame, State, function_at, put_into}
use Rattle.no_semantics.specs.Values.{Program}

-- ---- blocks by labels

-- the number of the first block of a label, from n on
abbrev pub block_from : ℕ → List Block → ℕ → Option ℕ
block_from n [] l = None
block_from n (b ∷ more) l = if b.label == l then Some n else block_from (n + 1) more l

-- a label means its first block
abbrev pub block_number : Function → ℕ → Option ℕ
block_number f l = block_from 0 f.blocks l

-- ---- phis

-- what a phi takes behind the block of a label: its first operand for it
abbrev pub taken : ℕ → List (Operand × ℕ) → Option Operand
taken l [] = None
taken l (pair ∷ more) = if pair.1 == l then Some pair.0 else taken l more

-- a register, where the phi has one, and its number
abbrev pub Move : Type 0
Move = Option ℕ × ℕ

-- a move of what a phi takes, if it takes anything, to the phi's register
abbrev pub with_register : Option ℕ → Option ℕ → Option Move
with_register into None = None
with_register into (Some n) = Some (into, n)

-- what a phi gets behind the block of a label
abbrev pub phi_move : Program → Registers → ℕ → Option ℕ → Ty → List (Operand × ℕ) → Option Move
phi_move p registers l into t pairs = with_register into (given None (taken l pairs) (operand_of p registers t))

-- the phis that a block begins with are all read in the registers before
abbrev pub phi_front : Program → Registers → ℕ → Option ℕ → Op → Option (List Move) → Option (List Move)
phi_front p registers l into (op.Phi t pairs) others = with_front (phi_move p registers l into t pairs) others
phi_front p registers l into _ others = Some []

-- what the phis get that a block begins with, on the edge from the block of a label; none where one gets nothing
abbrev pub phi_moves : Program → Registers → ℕ → List Instr → Option (List Move)
phi_moves p registers l [] = Some []
phi_moves p registers l (i ∷ more) = phi_front p registers l i.result i.op (phi_moves p registers l more)

-- a phi is one more than those behind it, and any other instruction is none
abbrev pub one_more : Op → ℕ → ℕ
one_more (op.Phi t pairs) n = suc n
one_more _ n = zero

-- how many phis a block begins with
abbrev pub phi_count : List Instr → ℕ
phi_count [] = 0
phi_count (i ∷ more) = one_more i.op (phi_count more)

-- the registers after all moves, in order
abbrev pub put_all : List Move → Registers → Registers
put_all [] registers = registers
put_all (m ∷ ms) registers = put_all ms (put_into m.0 m.1 registers)

-- ---- edges

-- a frame that comes from the block of a label to a block: its phis are done, and it stands behind them
abbrev pub landed : Program → Frame → ℕ → ℕ → Block → Option Frame
landed p f from b to =
    given None (phi_moves p f.registers from to.instrs) (λ moves. Some (record f { block = b; at = phi_count to.instrs; registers = put_all moves f.registers }))

-- a frame that comes from the block of a label to block b, where there is one
abbrev pub at_block : Program → Frame → ℕ → Function → Option ℕ → Option Frame
at_block p f from g None = None
at_block p f from g (Some b) = given None (slice_get g.blocks b) (landed p f from b)

-- a frame that comes from this block to the first block of label l
abbrev pub from_block : Program → Frame → Function → ℕ → Option Block → Option Frame
from_block p f g l None = None
from_block p f g l (Some from) = at_block p f from.label g (block_number g l)

-- a frame once it has branched to a label
unfoldable pub branched : Program → Frame → ℕ → Option Frame
branched p f l = given None (function_at p f.function) (λ g. from_block p f g l (slice_get g.blocks f.block))

-- the run goes on in this frame, and is stuck without one
abbrev pub arrived : State → Option Frame → Row
arrived s None = stuck
arrived s (Some f) = in_frame s f

-- the row of a branch to label l
abbrev pub go : Program → State → ℕ → Row
go p s l = arrived s (branched p s.frame l)

-- ---- instructions

-- "br Instruction"
unfoldable pub row_br : Program → ℕ → State → Row
row_br p l s = go p s l

-- "br Instruction" with a condition: the first label where that is 1, and else the second
unfoldable pub row_cond_br : Program → Operand → ℕ → ℕ → State → Row
row_cond_br p c l k s = given stuck (operand p 1 s.frame.registers c) (λ x. go p s (if x == 1 then l else k))

-- the label of the first case that equals, and else the default
abbrev pub case_label : ℕ → ℕ → List (ℕ × ℕ) → ℕ
case_label x l [] = l
case_label x l (c ∷ more) = if c.0 == x then c.1 else case_label x l more

-- "switch Instruction"
unfoldable pub row_switch : Program → ℕ → Operand → ℕ → List (ℕ × ℕ) → State → Row
row_switch p w a l cases s = given stuck (operand p w s.frame.registers a) (λ x. go p s (case_label x l cases))
