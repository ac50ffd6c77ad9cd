use Rattle.std.proofs.Common.{◌≡◌, []}
use Rattle.std.specs.BTreeSet.{contains}
use Rattle.std.specs.Ordering.{nat_cmp}
use Rattle.no_read_types.specs.Graph.{count_set, order_from, order_of, IsNumbering}
use Rattle.no_read_types.specs.Queue.{IsQueue}
use Rattle.no_read_types.proofs.order.number.Given as goal

abbrev pub invariant-loop-order : goal.invariant-loop-order
invariant-loop-order l = record {
  numbering : IsNumbering l.graph l.order l.numbers.items l.waits.items;
  so_far : order_from l.graph (count_set l.waits.items) l.order ≡ order_of l.graph;
  queue : IsQueue l.graph l.waits.items (contains nat_cmp l.queue.ready) l.queue.watchers l.queue.places.items [];
}

abbrev pub decreases-loop-order : goal.decreases-loop-order
decreases-loop-order l = count_set l.waits.items
