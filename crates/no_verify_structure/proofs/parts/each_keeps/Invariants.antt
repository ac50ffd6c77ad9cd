use Rattle.std.proofs.Common.{length, ◌≡◌}
use Rattle.std.specs.List.{list_all}
use Rattle.no_module.specs.Left.{operands_left}
use Rattle.no_verify_structure.specs.Parts.{operand_keeps}
use Rattle.no_verify_structure.proofs.parts.each_keeps.Given as goal

abbrev pub invariant-loop-operand : goal.invariant-loop-operand
invariant-loop-operand g l = list_all (operand_keeps (g.T.NameRule.registers l.rule) (g.T.NameRule.places l.rule)) (operands_left l.operands) ≡ list_all (operand_keeps (g.T.NameRule.registers l.rule) (g.T.NameRule.places l.rule)) (operands_left l.left)

abbrev pub decreases-loop-operand : goal.decreases-loop-operand
decreases-loop-operand g l = length (operands_left l.left)
