use Rattle.std.specs.BTreeSet.{contains}
use Rattle.std.specs.Ordering.{nat_cmp}
use Rattle.no_read_types.proofs.QueueLaws.{queue_starts}
use Rattle.no_read_types.proofs.queue.start_queue.Goals as goal

pub enqueue_all-requires-clause-queue : goal.enqueue_all-requires-clause-queue
enqueue_all-requires-clause-queue c =
    let queue = c.in_ok-queue.queue in
    let e = c.in_ok-queue.ensures in
    queue_starts c.args.graph.now c.args.waits.now (contains nat_cmp queue.ready) queue.watchers queue.places.items c.args.numbers.now c.requires.long e.ready e.watchers e.places c.requires.as_long c.requires.same
