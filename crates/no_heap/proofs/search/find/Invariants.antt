use Rattle.std.proofs.Common.{◌-◌}
use Rattle.no_heap.proofs.Found.{Between}
use Rattle.no_heap.proofs.search.find.Given as goal

-- a block at the address stands between the two
abbrev pub invariant-loop-low : goal.invariant-loop-low
invariant-loop-low l = Between l.blocks l.addr l.low l.high

abbrev pub decreases-loop-low : goal.decreases-loop-low
decreases-loop-low l = l.high - l.low
