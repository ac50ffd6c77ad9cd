use Rattle.std.proofs.Common.{take}
use Rattle.no_calls.specs.Spreading.{Marked, Noted, Reason}
use Rattle.no_calls.proofs.spread.visit_all.Given as goal

abbrev pub invariant-loop-set : goal.invariant-loop-set
invariant-loop-set l = record { noted : Noted (Reason l.sets l.down) l.level l.fn.found l.found; marked : Marked (take l.set-index l.sets) l.down l.found l.fn.done l.done }
