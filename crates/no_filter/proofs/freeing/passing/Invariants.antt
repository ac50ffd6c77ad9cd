use Rattle.std.proofs.Common.{◌≡◌, map, take}
use Rattle.no_filter.specs.Verdicts.{passes}
use Rattle.no_filter.proofs.freeing.passing.Given as goal

abbrev pub invariant-loop-function : goal.invariant-loop-function
invariant-loop-function l = l.flags.items ≡ map (passes l.device l.server) (take l.function-index l.functions)
