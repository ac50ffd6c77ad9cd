use Rattle.std.proofs.Common.{◌≡◌, ap, arith, length, ℕ, subst}
use Rattle.no_calls.specs.Shapes.{HasShapes}
use Rattle.no_calls.proofs.Shaping.{shapes_more, shapes_none}
use Rattle.no_calls.proofs.sets.all_shapes.Goals as goal

pub loop-k-init : goal.loop-k-init
loop-k-init c = record { shapes = shapes_none c.args.functions.now c.args.taken.now c.in_ok-shapes.shapes; few = omega (arith, ap length c.in_ok-shapes.ensures) }

pub loop-k-preserved : goal.loop-k-preserved
loop-k-preserved c = record {
  shapes = shapes_more c.args.functions.now c.args.taken.now c.loop-k.k c.index-functions-k.result c.flag.result c.loop-k.shapes c.add_shape.new.shapes (omega arith) c.index-functions-k.is c.flag.ensures c.in_ok-add_shape.ensures c.loop-k.invariant.shapes;
  few = omega (arith, c.in_ok-add_shape.ensures.few, c.loop-k.invariant.few);
}

pub returns-clause-shapes : goal.returns-clause-shapes
returns-clause-shapes c =
    let all : c.loop-k.k ≡ length c.args.functions.now = omega (arith, c.loop-k.auto.k-end) in
    subst (λ (n : ℕ). HasShapes c.args.functions.now c.args.taken.now n c.loop-k.shapes) all c.loop-k.invariant.shapes
