use Rattle.std.proofs.Common.{◌-◌, length}
use Rattle.no_heap.proofs.Indexed.{Raising}
use Rattle.no_heap.proofs.index.raise_each.Given as goal

-- every so many blocks up to the index are no exceptions
abbrev pub invariant-loop-index : goal.invariant-loop-index
invariant-loop-index l = Raising l.blocks l.fn.widest.items l.widest.items l.first l.index

abbrev pub decreases-loop-index : goal.decreases-loop-index
decreases-loop-index l = length l.blocks - l.index
