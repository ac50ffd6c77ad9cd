use Rattle.std.proofs.Common.{◌≤◌, length, arith}
use Rattle.no_verify_paths.proofs.Deciding.{rows_none, rows_more, sketch_answer}
use Rattle.no_verify_paths.proofs.verdict.judge_rows.Goals as goal

pub loop-number-init : goal.loop-number-init
loop-number-init c = rows_none c.args.function.now c.args.sketch.now.book.needs.items

pub loop-number-preserved : goal.loop-number-preserved
loop-number-preserved c = rows_more c.args.function.now c.args.sketch.now.book.needs.items c.loop-number.number c.loop-number.found c.in_ok-found.found c.loop-number.invariant c.in_ok-found.ensures

pub returns : goal.returns
returns c =
    let rows = c.args.sketch.now.book.needs in
    let all : length rows.items ≤ c.loop-number.number = omega (arith, rows.ok.0, c.len-number-end.ensures) in
    sketch_answer c.args.function.now c.args.sketch.now c.requires.sketch c.loop-number.number c.loop-number.found all c.loop-number.invariant
