use Rattle.std.proofs.Common.{◌≡◌, ◌++◌, drop}
use Rattle.no_filter.specs.Reasons.{is_volatile, those_from}
use Rattle.no_filter.proofs.reasons.volatiles.Given as goal

abbrev pub invariant-loop-k : goal.invariant-loop-k
invariant-loop-k l = l.numbers.items ++ those_from (is_volatile l.program) l.k (drop l.k l.program.functions) ≡ those_from (is_volatile l.program) 0 l.program.functions
