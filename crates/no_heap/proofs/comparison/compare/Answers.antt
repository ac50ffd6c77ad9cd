use Rattle.no_heap.proofs.Comparing.{comparing_none, comparing_more}
use Rattle.no_heap.proofs.comparison.compare.Goals as goal

pub loop-at-init : goal.loop-at-init
loop-at-init c = comparing_none c.args.now.now c.args.since.now c.new-told.result c.requires.live c.requires.was_live c.new-told.ensures

pub loop-at-preserved : goal.loop-at-preserved
loop-at-preserved c =
    let compared = rw (c.split_at.ensures.back, c.split_at-in-loop-at.ensures.back) at c.meet-step.ensures in
    comparing_more c.args.now.now c.args.since.now c.loop-at.told c.tell.new.told c.loop-at.at c.loop-at.was c.meet-step.result.entry c.meet-step.result.now c.meet-step.result.since c.loop-at.invariant compared c.in_ok-tell.ensures
