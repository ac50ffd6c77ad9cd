use Rattle.std.proofs.Common.{drop}
use Rattle.std.specs.BTreeSet.{contains}
use Rattle.std.specs.Ordering.{nat_cmp}
use Rattle.no_read_types.specs.Queue.{IsQueue}
use Rattle.no_read_types.proofs.queue.enqueue_all.Given as goal

abbrev pub invariant-loop-n : goal.invariant-loop-n
invariant-loop-n l = IsQueue l.graph l.waits (contains nat_cmp l.queue.ready) l.queue.watchers l.queue.places.items (drop l.n-index l.all)
