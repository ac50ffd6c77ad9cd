use Rattle.std.proofs.Common.{drop, map, ◌≡◌}
use Rattle.no_module.specs.SameOperands.{each_in, same_constant}
use Rattle.no_module.proofs.same_operands.+same.Given as goal

abbrev pub invariant-each_same-loop-member : goal.invariant-each_same-loop-member
invariant-each_same-loop-member l = each_in (map same_constant (drop l.member-index l.a)) l.rest ≡ each_in (map same_constant l.a) l.b
