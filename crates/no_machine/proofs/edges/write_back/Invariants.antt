use Rattle.std.proofs.Common.{◌≡◌, drop}
use Rattle.no_machine.specs.Did.{write_all}
use Rattle.no_machine.proofs.edges.write_back.Given as goal

abbrev pub invariant-loop-one : goal.invariant-loop-one
invariant-loop-one l = write_all (drop l.one-index l.writes) l.window ≡ write_all l.writes l.fn.window
