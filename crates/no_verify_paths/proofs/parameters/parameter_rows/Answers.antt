use Rattle.std.proofs.Common.{◌<◌, length, arith}
use Rattle.no_verify_paths.proofs.Solving.{parameters_none, parameters_more}
use Rattle.no_verify_paths.proofs.parameters.parameter_rows.Goals as goal

pub loop-parameter-init : goal.loop-parameter-init
loop-parameter-init c = parameters_none c.new-rows.result.items c.new-rows.ensures.items

pub loop-parameter-preserved : goal.loop-parameter-preserved
loop-parameter-preserved c =
    let ps = c.args.parameters.now in
    let i = c.loop-parameter.parameter-index in
    let within : i < length ps = omega arith in
    parameters_more ps i c.parameter-item.result c.loop-parameter.rows.items c.add_to_row.new.rows.items within c.parameter-item.is c.loop-parameter.invariant c.in_ok-add_to_row.ensures
