use Rattle.std.proofs.Common.{◌≡◌, drop}
use Rattle.no_filter.specs.Verdicts.{named_from}
use Rattle.no_filter.proofs.judging.number_named.Given as goal

abbrev pub invariant-loop-number : goal.invariant-loop-number
invariant-loop-number l = named_from l.name 0 l.functions ≡ named_from l.name l.number (drop l.number l.functions)
