use Rattle.std.proofs.Common.{◌<◌, ◌∷◌, [], length, take, get_or, arith}
use Rattle.std.proofs.lemmas.List.{take_more}
use Rattle.no_verify_paths.specs.Survey.{Gathers, IsThere}
use Rattle.no_verify_paths.proofs.Noting.{there_more}
use Rattle.no_verify_paths.proofs.survey.note_ends.Goals as goal

pub loop-pair-preserved : goal.loop-pair-preserved
loop-pair-preserved c =
    let pairs = c.args.pairs.now in
    let i = c.loop-pair.pair-index in
    let within : i < length pairs = omega arith in
    let now : Gathers (IsThere c.args.labels.now (get_or pairs i (0, 0) ∷ []) c.args.user) c.loop-pair.needs.items c.note_end.new.needs.items = c.in_ok-note_end.ensures in
    rw (take_more pairs i (0, 0) within) (there_more c.args.labels.now c.args.user (take i pairs) (get_or pairs i (0, 0)) c.args.needs.now.items c.loop-pair.needs.items c.note_end.new.needs.items c.loop-pair.invariant now)
