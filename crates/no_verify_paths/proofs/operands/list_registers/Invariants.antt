use Rattle.std.proofs.Common.{length, ◌≡◌, ◌++◌}
use Rattle.std.specs.List.{flat_map}
use Rattle.no_module.specs.Left.{operands_left}
use Rattle.no_verify_paths.specs.Paths.{registers_of}
use Rattle.no_verify_paths.proofs.operands.list_registers.Given as goal

abbrev pub invariant-loop-operand : goal.invariant-loop-operand
invariant-loop-operand l = l.fn.out.items ++ flat_map registers_of (operands_left l.operands) ≡ l.out.items ++ flat_map registers_of (operands_left l.left)

abbrev pub decreases-loop-operand : goal.decreases-loop-operand
decreases-loop-operand l = length (operands_left l.left)
