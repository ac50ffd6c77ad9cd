use Rattle.std.proofs.Common.{◌+◌, ◌*◌, length}
use Rattle.no_read_types.specs.Graph.{count_clear, IsSearch}
use Rattle.no_read_types.proofs.circle.is_on_circle.Given as goal

abbrev pub invariant-loop-seen : goal.invariant-loop-seen
invariant-loop-seen l = IsSearch l.graph l.start l.seen.items l.todo.items

abbrev pub decreases-loop-seen : goal.decreases-loop-seen
decreases-loop-seen l = 2 * count_clear l.seen.items + length l.todo.items
