use Rattle.std.proofs.Common.{◌≡◌, drop}
use Rattle.std.specs.List.{find}
use Rattle.no_read_types.specs.Graph.{is_set}
use Rattle.no_read_types.proofs.circle.first_waiting.Given as goal

abbrev pub invariant-loop-n : goal.invariant-loop-n
invariant-loop-n l = find (is_set l.waits) (drop l.n-index l.refs) ≡ find (is_set l.waits) l.refs
