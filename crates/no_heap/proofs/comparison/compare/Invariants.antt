use Rattle.std.proofs.Common.{◌+◌, ◌-◌, length}
use Rattle.no_heap.proofs.Comparing.{Comparing}
use Rattle.no_heap.proofs.comparison.compare.Given as goal

-- what is told and what is left tell of each place what is to be told
abbrev pub invariant-loop-at : goal.invariant-loop-at
invariant-loop-at l = Comparing l.now l.since l.told l.at l.was

abbrev pub decreases-loop-at : goal.decreases-loop-at
decreases-loop-at l = (length l.now + length l.since) - (l.at + l.was)
