use Rattle.std.proofs.Common.{◌∙◌}
use Rattle.std.specs.Prelude.{None}
use Rattle.no_filter.specs.Reasons.{inputs, pinned, volatiles}
use Rattle.no_filter.specs.Verdicts.{Spares}
use Rattle.no_filter.proofs.Deciding.{answers_is}
use Rattle.no_filter.proofs.judging.reached.Goals as goal

pub returns-in-Some : goal.returns-in-Some
returns-in-Some c = answers_is c.args.program.now c.args.f c.as_slice.result.now (inputs c.args.program.now) c.in_ok-names.field-0 _ (c.as_slice.ensures.value ∙ c.in_ok-readers.ensures) c.in-Some.is c.in_ok-names.ensures

pub returns-in-Some-2 : goal.returns-in-Some-2
returns-in-Some-2 c =
    let one : Spares c.args.program.now c.args.f (inputs c.args.program.now) = answers_is c.args.program.now c.args.f c.as_slice.result.now (inputs c.args.program.now) c.in_ok-names.field-0 None (c.as_slice.ensures.value ∙ c.in_ok-readers.ensures) c.in_default.is c.in_ok-names.ensures in
    (one, answers_is c.args.program.now c.args.f c.as_slice-2.result.now (volatiles c.args.program.now) c.in_ok-names-2.field-0 _ (c.as_slice-2.ensures.value ∙ c.in_ok-accesses.ensures) c.in-Some-2.is c.in_ok-names-2.ensures)

pub returns-in-Some-3 : goal.returns-in-Some-3
returns-in-Some-3 c =
    let one : Spares c.args.program.now c.args.f (inputs c.args.program.now) = answers_is c.args.program.now c.args.f c.as_slice.result.now (inputs c.args.program.now) c.in_ok-names.field-0 None (c.as_slice.ensures.value ∙ c.in_ok-readers.ensures) c.in_default.is c.in_ok-names.ensures in
    let two : Spares c.args.program.now c.args.f (volatiles c.args.program.now) = answers_is c.args.program.now c.args.f c.as_slice-2.result.now (volatiles c.args.program.now) c.in_ok-names-2.field-0 None (c.as_slice-2.ensures.value ∙ c.in_ok-accesses.ensures) c.in_default-2.is c.in_ok-names-2.ensures in
    (one, two, answers_is c.args.program.now c.args.f c.as_slice-3.result.now (pinned c.args.program.now) c.in_ok-names-3.field-0 _ (c.as_slice-3.ensures.value ∙ c.in_ok-bound.ensures) c.in-Some-3.is c.in_ok-names-3.ensures)

pub returns : goal.returns
returns c =
    let one : Spares c.args.program.now c.args.f (inputs c.args.program.now) = answers_is c.args.program.now c.args.f c.as_slice.result.now (inputs c.args.program.now) c.in_ok-names.field-0 None (c.as_slice.ensures.value ∙ c.in_ok-readers.ensures) c.in_default.is c.in_ok-names.ensures in
    let two : Spares c.args.program.now c.args.f (volatiles c.args.program.now) = answers_is c.args.program.now c.args.f c.as_slice-2.result.now (volatiles c.args.program.now) c.in_ok-names-2.field-0 None (c.as_slice-2.ensures.value ∙ c.in_ok-accesses.ensures) c.in_default-2.is c.in_ok-names-2.ensures in
    let three : Spares c.args.program.now c.args.f (pinned c.args.program.now) = answers_is c.args.program.now c.args.f c.as_slice-3.result.now (pinned c.args.program.now) c.in_ok-names-3.field-0 None (c.as_slice-3.ensures.value ∙ c.in_ok-bound.ensures) c.in_default-3.is c.in_ok-names-3.ensures in
    (one, two, three)
