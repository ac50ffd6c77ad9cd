use Rattle.std.proofs.Common.{◌≡◌, drop}
use Rattle.std.specs.List.{flat_map}
use Rattle.no_semantics.specs.Taken.{block_taken}
use Rattle.no_taken.specs.Marked.{marked}
use Rattle.no_taken.proofs.marks.mark_blocks.Given as goal

abbrev pub invariant-loop-block : goal.invariant-loop-block
invariant-loop-block l = marked (flat_map block_taken (drop l.block-index l.blocks)) l.flags ≡ marked (flat_map block_taken l.blocks) l.fn.flags
