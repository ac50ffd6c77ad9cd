use Rattle.std.proofs.Common.{◌≡◌, ◌++◌, drop}
use Rattle.no_filter.specs.Reasons.{reads_input, those_from}
use Rattle.no_filter.proofs.reasons.inputs.Given as goal

abbrev pub invariant-loop-k : goal.invariant-loop-k
invariant-loop-k l = l.numbers.items ++ those_from reads_input l.k (drop l.k l.program.functions) ≡ those_from reads_input 0 l.program.functions
