use Rattle.std.proofs.Common.{◌<◌, length, take, get_or, false, arith}
use Rattle.std.proofs.lemmas.List.{take_more}
use Rattle.std.proofs.lemmas.List.Elements.{Contains-get_or}
use Rattle.no_verify_paths.specs.declared.need.Need.{Need}
use Rattle.no_verify_paths.proofs.Judging.{judged_more}
use Rattle.no_verify_paths.proofs.judge.judge.Goals as goal

blank : Need
blank = record { register = 0; block = 0; at_end = false; user = (0, 0) }

pub judge_need-found-requires-clause-stands : goal.judge_need-found-requires-clause-stands
unfolding blank
judge_need-found-requires-clause-stands c =
    let needs = c.args.needs.now in
    let i = c.loop-need.need-index in
    let within : i < length needs = omega arith in
    c.requires.stand (get_or needs i blank) (Contains-get_or needs i blank within)

pub loop-need-preserved : goal.loop-need-preserved
unfolding blank
loop-need-preserved c =
    let needs = c.args.needs.now in
    let i = c.loop-need.need-index in
    let within : i < length needs = omega arith in
    rw (take_more needs i blank within) (judged_more c.args.function.now (take i needs) (get_or needs i blank) c.args.found c.loop-need.found c.judge_need-found.result c.loop-need.invariant c.judge_need-found.ensures)
