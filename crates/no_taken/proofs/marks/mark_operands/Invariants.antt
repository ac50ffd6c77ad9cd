use Rattle.std.proofs.Common.{length, ◌≡◌}
use Rattle.std.specs.List.{flat_map}
use Rattle.no_module.specs.Left.{operands_left}
use Rattle.no_verify_types.specs.Named.{operand_names}
use Rattle.no_taken.specs.Marked.{marked}
use Rattle.no_taken.proofs.marks.mark_operands.Given as goal

abbrev pub invariant-loop-operand : goal.invariant-loop-operand
invariant-loop-operand l = marked (flat_map operand_names (operands_left l.operands)) l.fn.flags ≡ marked (flat_map operand_names (operands_left l.left)) l.flags

abbrev pub decreases-loop-operand : goal.decreases-loop-operand
decreases-loop-operand l = length (operands_left l.left)
