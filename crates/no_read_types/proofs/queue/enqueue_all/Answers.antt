use Rattle.std.proofs.Common.{◌+◌, ℕ, List, drop, subst}
use Rattle.std.proofs.lemmas.List.{drop_more}
use Rattle.std.specs.BTreeSet.{contains}
use Rattle.std.specs.Ordering.{nat_cmp}
use Rattle.no_read_types.specs.Queue.{IsQueue}
use Rattle.no_read_types.proofs.queue.enqueue_all.Goals as goal

pub loop-n-preserved : goal.loop-n-preserved
loop-n-preserved c =
    let all = c.args.all.now in
    let queue = c.loop-n.queue in
    c.in_ok-enqueue.ensures (drop (c.loop-n.n-index + 1) all)
    (subst (λ (xs : List ℕ). IsQueue c.args.graph.now c.args.waits.now (contains nat_cmp queue.ready) queue.watchers queue.places.items xs) (drop_more all c.loop-n.n-index 0 c.loop-n-test.true) c.loop-n.invariant)
