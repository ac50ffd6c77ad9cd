use Rattle.std.proofs.Common.{◌≡◌, ◌<◌, Some, None, false, length, set, sym, ap, ◌∙◌, arith}
use Rattle.no_read_types.specs.Graph.{is_set, next_from, count_set}
use Rattle.no_read_types.specs.Queue.{cleared}
use Rattle.no_read_types.proofs.FlagLaws.{set_falls, count_replicate}
use Rattle.no_read_types.proofs.OrderLaws.{next_waits, within, numbering_starts, numbering_goes, order_goes, order_stops, order_starts}
use Rattle.no_read_types.proofs.order.number.Goals as goal

pub loop-order-init : goal.loop-order-init
loop-order-init c =
    let graph = c.args.graph.now in
    rw c.new-order.ensures (record {
      numbering = numbering_starts graph c.in_ok-numbers.numbers.items c.in_ok-waits.waits.items c.in_ok-waits.ensures c.in_ok-numbers.ensures.long c.in_ok-numbers.ensures.same;
      so_far = order_starts graph (count_set c.in_ok-waits.waits.items) (ap count_set c.in_ok-waits.ensures ∙ count_replicate (length graph));
      queue = rw c.deref.ensures.value at c.in_ok-queue.ensures;
    })

pub returns-in-None-clause-order : goal.returns-in-None-clause-order
returns-in-None-clause-order c =
    let graph = c.args.graph.now in
    let e : None ≡ next_from (is_set c.loop-order.waits.items) 0 graph = sym c.in-None.is ∙ c.in_ok-next.ensures.next in
    sym (order_stops graph c.loop-order.order c.loop-order.numbers.items c.loop-order.waits.items (count_set c.loop-order.waits.items) c.loop-order.invariant.numbering e) ∙ c.loop-order.invariant.so_far

pub index_mut-requires : goal.index_mut-requires
index_mut-requires c =
    let graph = c.args.graph.now in
    let e : Some c.in-Some.n ≡ next_from (is_set c.loop-order.waits.items) 0 graph = sym c.in-Some.is ∙ c.in_ok-next.ensures.next in
    let w : c.in-Some.n < length graph = within graph c.loop-order.order c.loop-order.numbers.items c.loop-order.waits.items c.in-Some.n c.loop-order.invariant.numbering (next_waits (is_set c.loop-order.waits.items) 0 graph c.in-Some.n (sym e)) in
    let l = c.loop-order.invariant.numbering.as_long in
    omega arith

pub loop-order-smaller : goal.loop-order-smaller
loop-order-smaller c =
    let graph = c.args.graph.now in
    let waits = c.loop-order.waits.items in
    let e : Some c.in-Some.n ≡ next_from (is_set waits) 0 graph = sym c.in-Some.is ∙ c.in_ok-next.ensures.next in
    let f = set_falls waits c.in-Some.n (next_waits (is_set waits) 0 graph c.in-Some.n (sym e)) in
    let w : count_set c.take_next.new.waits.items ≡ count_set (set waits c.in-Some.n false) = ap count_set (c.in_ok-next.ensures.waits ∙ ap (cleared waits) c.in-Some.is) in
    omega arith

pub loop-order-preserved : goal.loop-order-preserved
loop-order-preserved c =
    let graph = c.args.graph.now in
    let order = c.loop-order.order in
    let numbers = c.loop-order.numbers.items in
    let waits = c.loop-order.waits.items in
    let e : Some c.in-Some.n ≡ next_from (is_set waits) 0 graph = sym c.in-Some.is ∙ c.in_ok-next.ensures.next in
    let here = next_waits (is_set waits) 0 graph c.in-Some.n (sym e) in
    let w : c.take_next.new.waits.items ≡ set waits c.in-Some.n false = c.in_ok-next.ensures.waits ∙ ap (cleared waits) c.in-Some.is in
    record {
      numbering = rw (c.in_ok-push-in-Some.ensures.ok, w) (numbering_goes graph order numbers waits c.in-Some.n c.loop-order.invariant.numbering here c.len.result (omega arith));
      so_far = rw (c.in_ok-push-in-Some.ensures.ok, w) (order_goes graph order numbers waits c.in-Some.n _ c.loop-order.invariant.numbering e c.loop-order.invariant.so_far);
      queue = c.in_ok-next.ensures.queue;
    }
