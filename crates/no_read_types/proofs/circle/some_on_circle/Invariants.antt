use Rattle.no_read_types.specs.Graph.{count_clear, IsWalk}
use Rattle.no_read_types.proofs.circle.some_on_circle.Given as goal

abbrev pub invariant-loop-visited : goal.invariant-loop-visited
invariant-loop-visited l = IsWalk l.graph l.waits l.visited.items l.n

abbrev pub decreases-loop-visited : goal.decreases-loop-visited
decreases-loop-visited l = count_clear l.visited.items
