use Rattle.std.proofs.Common.{◌≡◌, Option, ap, ◌++◌, ◌∙◌}
use Rattle.std.proofs.lemmas.Result.{err_from_is_err_and}
use Rattle.no_read_attributes.specs.Attributes.{listed}
use Rattle.no_read_attributes.specs.declared.marks.Mark.{Mark}
use Rattle.no_read_attributes.proofs.AttributeLaws.{marks_fail, marks_stop, marks_go, falls}
use Rattle.no_read_attributes.proofs.marks.attribute_marks.Goals as goal

pub returns-in_err-item : goal.returns-in_err-item
returns-in_err-item c =
    let p = err_from_is_err_and c.from_residual.result c.from_residual.ensures.1 in
    rw (p.1, p.2) (marks_fail c.args.text.now c.args.role c.in_err-item.field-0.0 c.loop-all.all c.loop-all.rest.now _ c.in_err-item.ensures c.loop-all.invariant)

pub returns-in-None : goal.returns-in-None
returns-in-None c = marks_stop c.args.text.now c.args.role c.loop-all.all c.loop-all.rest.now c.in_ok-item.after.now c.in_ok-item.item _ c.in_ok-item.ensures c.in-None.is c.loop-all.invariant

pub loop-all-smaller : goal.loop-all-smaller
loop-all-smaller c = falls c.args.text.now c.loop-all.rest.now c.in_ok-item.after.now c.in_ok-item.item c.in-Some.attribute c.in_ok-item.ensures c.in-Some.is

pub loop-all-preserved : goal.loop-all-preserved
loop-all-preserved c =
    let more : c.with_mark.new.all ≡ c.loop-all.all ++ listed _ = c.in_ok-with_mark-in-Some.ensures ∙ ap (λ (o : Option Mark). c.loop-all.all ++ listed o) c.in_ok-mark-in-Some.ensures in
    marks_go c.args.text.now c.args.role c.loop-all.all c.with_mark.new.all c.loop-all.rest.now c.in_ok-item.after.now c.in_ok-item.item c.in-Some.attribute _ c.in_ok-item.ensures c.in-Some.is more c.loop-all.invariant
