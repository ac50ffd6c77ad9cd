use Rattle.std.proofs.Common.{◌≡◌, drop, map}
use Rattle.no_module.specs.Scalars.{each_meets, is_param}
use Rattle.no_module.proofs.scalar.takes.Given as goal

abbrev pub invariant-loop-scalar : goal.invariant-loop-scalar
invariant-loop-scalar l = each_meets (map is_param (drop l.scalar-index l.wanted)) l.rest ≡ each_meets (map is_param l.wanted) l.params
