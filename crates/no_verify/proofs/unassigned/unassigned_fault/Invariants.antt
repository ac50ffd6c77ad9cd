use Rattle.no_verify.specs.Kinds.{AreAssigned}
use Rattle.no_verify.proofs.unassigned.unassigned_fault.Given as goal

abbrev pub invariant-loop-k : goal.invariant-loop-k
invariant-loop-k l = AreAssigned l.functions l.k
