use Rattle.no_calls.specs.Spreading.{IsListedTo}
use Rattle.no_calls.proofs.reached.listed.Given as goal

abbrev pub invariant-loop-k : goal.invariant-loop-k
invariant-loop-k l = IsListedTo l.far l.k l.ks
