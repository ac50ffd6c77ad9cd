-- Phis and the blocks that control comes from (LLVM Language Reference, "phi Instruction").
use Rattle.std.specs.Prelude.{ℕ, ◌-◌, ◌==◌, Bool, true, false, ◌&&◌, not, is_some, nat_lt, List, [], length, slice_get, take, Option, Some, None, if◌then◌else◌}
use Rattle.std.specs.List.{filter, find, list_all}
use Rattle.no_ir.specs.declared.instruction.Operand.{Operand}
use Rattle.no_ir.specs.declared.instruction.Op.{Op}
use Rattle.no_ir.specs.declared.instruction.Op.TheVariants as op
use Rattle.no_ir.specs.declared.instruction.Instr.{Instr}
use Rattle.no_ir.specs.declared.function.Block.{Block}
use Rattle.no_ir.specs.declared.function.Function.{Function}
use Rattle.no_ir.specs.declared.function.Module.{Module}
use Rattle.no_verify_types.specs.declared.place.FaultPlace.{FaultPlace}
use Rattle.no_verify_structure.specs.Finding.{first_break, first_at, first_place}
use Rattle.no_verify_structure.specs.Names.{is_in, blocks_labels}
use Rattle.no_module.specs.Instructions.{exits_in, is_phi, pair_labels}
use Rattle.no_module.specs.SameOperands.{same_operand}

-- ---- predecessors, reachable or not

-- the labels that a block's last instruction leads to
abbrev pub block_exits : Block → List ℕ
block_exits b = exits_in (slice_get b.instrs (length b.instrs - 1))

-- the last instruction of a block leads to label l
abbrev pub leads_to : ℕ → Block → Bool
leads_to l b = is_in (block_exits b) l

-- the labels of the blocks that lead to a label; a number that is no label of the function has none
abbrev pub predecessors : Function → ℕ → List ℕ
predecessors f l = if nat_lt l (length f.labels) then blocks_labels (filter (leads_to l) f.blocks) else []

-- ---- phis

-- each label of either list is in the other, however often and in whatever order
abbrev pub same_labels : List ℕ → List ℕ → Bool
same_labels a b = list_all (is_in b) a && list_all (is_in a) b

-- an operand is that of an earlier pair, if there is one
abbrev pub agrees : Option (Operand × ℕ) → Operand → Bool
agrees None o = true
agrees (Some pair) o = same_operand pair.0 o

-- the first pair with a label
abbrev pub pair_of : List (Operand × ℕ) → ℕ → Option (Operand × ℕ)
pair_of pairs l = find (λ (pair : Operand × ℕ). pair.1 == l) pairs

-- a label comes again with the operand that it has where it comes first
abbrev pub pairs_agree : List (Operand × ℕ) → Bool
pairs_agree pairs = not (is_some (first_break (λ i (pair : Operand × ℕ). agrees (pair_of (take i pairs) pair.1) pair.0) 0 pairs))

-- a phi stands where it may, and its labels are those of the predecessors
abbrev pub op_meets : List ℕ → Bool → Op → Bool
op_meets before allowed (op.Phi t pairs) = allowed && (same_labels (pair_labels pairs) before && pairs_agree pairs)
op_meets before allowed _ = true

-- phis may stand in each block but the entry, before all other instructions
abbrev pub phi_allowed : ℕ → List Instr → Bool
phi_allowed b before = nat_lt 0 b && list_all (λ (i : Instr). is_phi i.op) before

-- the first phi of block b that doesn't meet these predecessors
abbrev pub phis_meet : List ℕ → ℕ → List Instr → Option ℕ
phis_meet before b instrs = first_break (λ i (instr : Instr). op_meets before (phi_allowed b (take i instrs)) instr.op) 0 instrs

-- the first phi of block b that doesn't meet the block's predecessors
abbrev pub block_phis : Function → ℕ → Block → Option ℕ
block_phis f b block = phis_meet (predecessors f block.label) b block.instrs

-- block and place of the first such phi of a function
abbrev pub function_phis : Function → Option (ℕ × ℕ)
function_phis f = first_at (block_phis f) 0 f.blocks

-- where a phi doesn't meet the edges that lead to it
abbrev pub phis_of : Module → Option FaultPlace
phis_of m = first_place (λ k. function_phis) m.functions
