use Rattle.no_heap.proofs.Rising.{StandsTo}
use Rattle.no_heap.proofs.bad.first_bad.Given as goal

-- the blocks so far may stand, and end here
abbrev pub invariant-loop-index : goal.invariant-loop-index
invariant-loop-index l = StandsTo l.blocks l.index l.end
