use Rattle.std.proofs.Common.{arith}
use Rattle.no_read_types.specs.Graph.{OnCircle}
use Rattle.no_read_types.proofs.CircleLaws.{tells_not, below_one_more}
use Rattle.no_read_types.proofs.circle.first_on_circle.Goals as goal

pub loop-n-preserved : goal.loop-n-preserved
loop-n-preserved c = below_one_more (OnCircle c.args.graph.now) c.loop-n.n c.loop-n.invariant (tells_not c.in_ok-is_on_circle.field-0 (OnCircle c.args.graph.now c.loop-n.n) c.if-branch.false c.in_ok-is_on_circle.ensures)

pub returns : goal.returns
returns c = record { on_circle = c.in_ok-last.ensures; first = λ m lt. let e = c.loop-n.auto.n-end in let t = c.loop-n-test.false in c.loop-n.invariant m (omega arith) }
