use Rattle.std.proofs.Common.{◌≡◌, ◌-◌, false, length, take}
use Rattle.std.specs.List.{list_any}
use Rattle.no_read_types.specs.Graph.{is_set}
use Rattle.no_read_types.proofs.queue.advance.Given as goal

abbrev pub invariant-loop-at : goal.invariant-loop-at
invariant-loop-at l = list_any (is_set l.waits) (take l.at l.refs) ≡ false

abbrev pub decreases-loop-at : goal.decreases-loop-at
decreases-loop-at l = length l.refs - l.at
