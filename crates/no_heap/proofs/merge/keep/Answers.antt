use Rattle.no_heap.proofs.Merging.{keep_put}
use Rattle.no_heap.proofs.merge.keep.Goals as goal

pub returns-then-put-clause-step : goal.returns-then-put-clause-step
returns-then-put-clause-step c = keep_put c.args.out.now.items c.put.new.out.items c.args.kept.now c.args.entry c.requires.some c.requires.below c.if-put.ensures.put
