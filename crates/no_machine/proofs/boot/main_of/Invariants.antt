use Rattle.std.proofs.Common.{◌≡◌, drop}
use Rattle.no_semantics.specs.Starts.{main_from}
use Rattle.no_machine.proofs.boot.main_of.Given as goal

abbrev pub invariant-loop-index : goal.invariant-loop-index
invariant-loop-index l = main_from l.index (drop l.index l.functions) ≡ main_from 0 l.functions
