use Rattle.std.proofs.Common.{◌≡◌, take}
use Rattle.std.specs.List.{flat_map}
use Rattle.no_ir.specs.declared.function.Block.{Block}
use Rattle.no_ir.specs.declared.instruction.Instr.{Instr}
use Rattle.no_calls.specs.Shapes.{op_sets}
use Rattle.no_calls.proofs.sets.called_sets.Given as goal

abbrev pub invariant-loop-block : goal.invariant-loop-block
invariant-loop-block l = l.sets.items ≡ flat_map (λ (i : Instr). op_sets l.n l.shapes i.op) (flat_map (λ (b : Block). b.instrs) (take l.block-index l.block-items))
