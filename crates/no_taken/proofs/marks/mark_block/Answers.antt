use Rattle.no_ir.specs.declared.instruction.Instr.{Instr}
use Rattle.no_semantics.specs.Taken.{op_taken}
use Rattle.no_taken.proofs.Flags.{marked_on}
use Rattle.no_taken.proofs.marks.mark_block.Goals as goal

pub loop-instr-preserved : goal.loop-instr-preserved
loop-instr-preserved c = marked_on (λ (i : Instr). op_taken i.op) c.args.instrs.now c.loop-instr.instr-index c.instr-item.result c.loop-instr.flags c.mark_op.new.flags _ c.loop-instr-test.true c.instr-item.is c.loop-instr.invariant c.mark_op.ensures
