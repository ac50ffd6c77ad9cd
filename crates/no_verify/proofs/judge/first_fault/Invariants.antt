use Rattle.std.proofs.Common.{take}
use Rattle.no_verify.specs.Kinds.{IsPlace}
use Rattle.no_verify.specs.Verdict.{AreNowhereBefore}
use Rattle.no_verify.proofs.judge.first_fault.Given as goal

abbrev pub invariant-loop-kind : goal.invariant-loop-kind
invariant-loop-kind l = AreNowhereBefore (IsPlace l.layout l.program l.role) l.kinds l.kind-index
