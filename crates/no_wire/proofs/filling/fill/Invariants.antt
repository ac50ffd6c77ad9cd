-- what was moved stands behind what was there, and is less than a frame
use Rattle.std.proofs.Common.{◌≡◌, ◌++◌, length}
use Rattle.no_wire.specs.Fronts.{IsOpen}
use Rattle.no_wire.specs.Spelled.{Keeps}
use Rattle.no_wire.proofs.filling.fill.Given as goal

abbrev pub invariant-loop-left : goal.invariant-loop-left
invariant-loop-left l = record {
  same : l.rest.items ++ l.left ≡ l.fn.rest.items ++ l.piece;
  keeps : Keeps l.fn.rest.items l.rest.items;
  partial : IsOpen l.rest.items;
}

abbrev pub decreases-loop-left : goal.decreases-loop-left
decreases-loop-left l = length l.left
