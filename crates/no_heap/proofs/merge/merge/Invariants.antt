use Rattle.std.proofs.Common.{◌+◌, ◌-◌, ◌≤◌, length, vec_capacity}
use Rattle.no_heap.specs.declared.block.TheConstants.{MOST_BLOCKS}
use Rattle.no_heap.proofs.Merging.{Merging}
use Rattle.no_heap.proofs.merge.merge.Given as goal

-- what is done and what is left make the list that all entries leave
abbrev pub invariant-loop-told : goal.invariant-loop-told
invariant-loop-told l = record { merging : Merging l.blocks l.entries l.out.items l.kept l.told; room : MOST_BLOCKS ≤ vec_capacity l.out }

abbrev pub decreases-loop-told : goal.decreases-loop-told
decreases-loop-told l = (length l.blocks - l.kept) + (length l.entries - l.told)
