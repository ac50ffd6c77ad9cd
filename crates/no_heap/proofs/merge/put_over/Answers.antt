use Rattle.std.proofs.Common.{arith}
use Rattle.no_heap.proofs.Merging.{over_put}
use Rattle.no_heap.proofs.merge.put_over.Goals as goal

pub returns-then-put-clause-step : goal.returns-then-put-clause-step
returns-then-put-clause-step c = over_put c.args.out.now.items c.put.new.out.items c.args.kept.now c.args.entry c.requires.some c.requires.here (omega (arith, c.if-entry-eq0.false)) c.if-put.ensures.put
