use Rattle.std.proofs.Common.{drop, ◌≡◌}
use Rattle.no_module.specs.SameOperands.{same_indices}
use Rattle.no_module.proofs.same_operands.same_indices.Given as goal

abbrev pub invariant-loop-index : goal.invariant-loop-index
invariant-loop-index l = same_indices (drop l.index-index l.a) l.rest ≡ same_indices l.a l.b
