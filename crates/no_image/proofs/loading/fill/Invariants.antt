use Rattle.std.proofs.Common.{◌≡◌, ◌≤◌, drop, length}
use Rattle.no_image.specs.Pieces.{over}
use Rattle.no_pages.specs.Table.{byte_of, dirty_of, held_of, regions_of}
use Rattle.no_image.proofs.loading.fill.Given as goal

abbrev pub invariant-loop-left : goal.invariant-loop-left
invariant-loop-left l = record {
  within : l.left ≤ length l.pieces;
  bytes : byte_of l.memory ≡ over (drop l.left l.pieces) (byte_of l.fn.memory);
  regions : regions_of l.memory ≡ regions_of l.fn.memory;
  held : held_of l.memory ≡ held_of l.fn.memory;
  dirty : dirty_of l.memory ≡ dirty_of l.fn.memory;
}

abbrev pub decreases-loop-left : goal.decreases-loop-left
decreases-loop-left l = l.left
