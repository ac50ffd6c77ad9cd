use Rattle.std.proofs.Common.{◌≡◌, ◌++◌, drop}
use Rattle.no_read_types.specs.Graph.{marked, fresh}
use Rattle.no_read_types.proofs.flags.mark.Given as goal

abbrev pub invariant-loop-n : goal.invariant-loop-n
invariant-loop-n l = record {
  seen : marked l.seen.items (drop l.n-index l.refs) ≡ marked l.fn.seen.items l.refs;
  todo : l.todo.items ++ fresh l.seen.items (drop l.n-index l.refs) ≡ l.fn.todo.items ++ fresh l.fn.seen.items l.refs;
}
