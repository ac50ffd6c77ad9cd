use Rattle.std.proofs.Common.{ℕ, Bool, [], sym, subst}
use Rattle.std.specs.BTreeSet.{contains}
use Rattle.std.specs.Ordering.{nat_cmp}
use Rattle.no_read_types.specs.Queue.{IsQueue}
use Rattle.no_read_types.proofs.QueueLaws.{least_is_next, none_is_next, numbered_queue}
use Rattle.no_read_types.proofs.queue.take_next.Goals as goal

pub enqueue_all-requires-clause-queue : goal.enqueue_all-requires-clause-queue
enqueue_all-requires-clause-queue c =
    let queue = c.args.queue.now in
    rw (c.deref.ensures.value, c.deref-in-Some.ensures.value, c.take_watchers-watching.ensures.all, c.take_watchers-watching.ensures.none)
    (numbered_queue c.args.graph.now c.args.waits.now.items c.requires.long (contains nat_cmp queue.ready) queue.watchers queue.places.items (contains nat_cmp c.take_least.new.ready) c.in-Some.n c.requires.queue c.in-Some.ensures)

pub returns-in-None-clause-next : goal.returns-in-None-clause-next
returns-in-None-clause-next c =
    let queue = c.args.queue.now in
    sym (none_is_next c.args.graph.now c.args.waits.now.items c.requires.long (contains nat_cmp queue.ready) queue.watchers queue.places.items c.requires.queue (λ m. (c.in-None.ensures m).0))

pub returns-in-None-clause-queue : goal.returns-in-None-clause-queue
returns-in-None-clause-queue c =
    let queue = c.args.queue.now in
    subst (λ (ready : ℕ → Bool). IsQueue c.args.graph.now c.args.waits.now.items ready queue.watchers queue.places.items []) (λ i m. (sym (c.in-None.ensures m).1) i) c.requires.queue

pub returns-in_ok-enqueue_all-in-Some-clause-next : goal.returns-in_ok-enqueue_all-in-Some-clause-next
returns-in_ok-enqueue_all-in-Some-clause-next c =
    let queue = c.args.queue.now in
    sym (least_is_next c.args.graph.now c.args.waits.now.items c.requires.long (contains nat_cmp queue.ready) queue.watchers queue.places.items (contains nat_cmp c.take_least.new.ready) c.in-Some.n c.requires.queue c.in-Some.ensures)
