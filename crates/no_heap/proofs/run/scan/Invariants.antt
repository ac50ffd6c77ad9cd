use Rattle.std.proofs.Common.{◌≡◌}
use Rattle.no_heap.specs.Index.{end_before}
use Rattle.no_heap.proofs.Indexed.{Passing}
use Rattle.no_heap.proofs.run.scan.Given as goal

-- the blocks of the run so far have no room
abbrev pub invariant-loop-index : goal.invariant-loop-index
invariant-loop-index l = (l.at ≡ end_before l.blocks l.index) × Passing l.blocks l.need l.from l.index l.widest
