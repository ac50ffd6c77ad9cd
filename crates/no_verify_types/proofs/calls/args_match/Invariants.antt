use Rattle.std.proofs.Common.{◌≡◌, drop, map}
use Rattle.no_module.specs.Scalars.{each_meets}
use Rattle.no_verify_types.specs.Typing.{is_passed}
use Rattle.no_verify_types.proofs.calls.args_match.Given as goal

abbrev pub invariant-loop-arg : goal.invariant-loop-arg
invariant-loop-arg l = each_meets (map is_passed (drop l.arg-index l.args)) l.rest ≡ each_meets (map is_passed l.args) l.params
