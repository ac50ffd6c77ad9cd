use Rattle.std.proofs.Common.{◌≡◌, drop}
use Rattle.no_semantics.specs.Calls.{addressed_from}
use Rattle.no_machine.proofs.device.addressed.Given as goal

abbrev pub invariant-loop-index : goal.invariant-loop-index
invariant-loop-index l = addressed_from l.index (drop l.index l.functions) l.at ≡ addressed_from 0 l.functions l.at
