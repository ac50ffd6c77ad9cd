use Rattle.std.proofs.Common.{◌≡◌, ◌-◌, ◌%◌, min, length}
use Rattle.no_heap.specs.declared.block.TheConstants.{RUN}
use Rattle.no_heap.specs.Index.{AreWidest}
use Rattle.no_heap.specs.Search.{HasCome}
use Rattle.no_heap.proofs.gap.find_gap.Given as goal

-- the runs so far have no room
abbrev pub invariant-loop-from : goal.invariant-loop-from
invariant-loop-from l = record {
  even : l.from % RUN ≡ 0;
  come : HasCome l.blocks l.need (min l.from (length l.blocks));
  widest : AreWidest l.blocks l.widest.items;
}

abbrev pub decreases-loop-from : goal.decreases-loop-from
decreases-loop-from l = length l.blocks - l.from
