use Rattle.std.proofs.Common.{◌∙◌}
use Rattle.no_calls.proofs.Shaping.{shape_added}
use Rattle.no_calls.proofs.sets.add_shape.Goals as goal

pub returns : goal.returns
returns c = shape_added c.args.function.now c.args.taken c.args.shapes.now c.number.new.self c.as_slice-2.result.now (c.as_slice-2.ensures.value ∙ c.in_ok-shape.ensures) c.in_ok-number.ensures.names
