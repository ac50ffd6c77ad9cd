use Rattle.no_heap.proofs.Rising.{bad_here, stands_more}
use Rattle.no_heap.proofs.bad.first_bad.Goals as goal

pub returns-then-not-may_stand : goal.returns-then-not-may_stand
returns-then-not-may_stand c = bad_here c.args.blocks.now c.loop-index.index c.loop-index.end c.loop-index.invariant c.loop-index-test.true c.if-not-may_stand.ensures

pub loop-index-preserved : goal.loop-index-preserved
loop-index-preserved c = stands_more c.args.blocks.now c.loop-index.index c.loop-index.end c.loop-index.invariant c.loop-index-test.true c.if-index-eq-MOST_BLOCKS.false c.if-not-may_stand.ensures
