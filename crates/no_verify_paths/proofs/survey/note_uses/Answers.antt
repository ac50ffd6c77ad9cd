use Rattle.std.proofs.Common.{◌<◌, ◌∷◌, [], length, take, get_or, arith}
use Rattle.std.proofs.lemmas.List.{take_more}
use Rattle.no_verify_paths.specs.Survey.{Gathers, IsHere}
use Rattle.no_verify_paths.proofs.Noting.{here_more}
use Rattle.no_verify_paths.proofs.survey.note_uses.Goals as goal

pub loop-register-preserved : goal.loop-register-preserved
loop-register-preserved c =
    let registers = c.args.registers.now in
    let i = c.loop-register.register-index in
    let within : i < length registers = omega arith in
    let now : Gathers (IsHere (get_or registers i 0 ∷ []) c.args.marks.now c.args.user) c.loop-register.needs.items c.note_use.new.needs.items = c.in_ok-note_use.ensures in
    rw (take_more registers i 0 within) (here_more c.args.marks.now c.args.user (take i registers) (get_or registers i 0) c.args.needs.now.items c.loop-register.needs.items c.note_use.new.needs.items c.loop-register.invariant now)
