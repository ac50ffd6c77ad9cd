use Rattle.std.proofs.Common.{◌≤◌, ◌-◌, length}
use Rattle.no_read_types.specs.Graph.{AreSame}
use Rattle.no_read_types.proofs.order.same_numbers.Given as goal

abbrev pub invariant-loop-all : goal.invariant-loop-all
invariant-loop-all l = record { within : length l.all.items ≤ l.count; same : AreSame l.all.items }

abbrev pub decreases-loop-all : goal.decreases-loop-all
decreases-loop-all l = l.count - length l.all.items
