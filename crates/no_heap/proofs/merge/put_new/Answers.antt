use Rattle.std.proofs.Common.{arith}
use Rattle.no_heap.proofs.Merging.{new_put}
use Rattle.no_heap.proofs.merge.put_new.Goals as goal

pub returns-then-put-clause-step : goal.returns-then-put-clause-step
returns-then-put-clause-step c = new_put c.args.out.now.items c.put.new.out.items c.args.kept.now c.args.entry c.requires.above (omega (arith, c.if-entry-eq0.false)) c.if-put.ensures.put
