use Rattle.no_module.specs.Left.{operands_left}
use Rattle.no_taken.proofs.Flags.{marked_more}
use Rattle.no_taken.proofs.marks.mark_operands.Goals as goal

pub loop-operand-preserved : goal.loop-operand-preserved
loop-operand-preserved c =
    marked_more c.loop-operand.flags c.mark_operand.new.flags _ (operands_left c.loop-operand.left) (operands_left c.in-Some.more) c.in-Some.operand.now c.mark_operand.ensures c.in-Some.ensures c.loop-operand.invariant
