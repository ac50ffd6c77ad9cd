use Rattle.std.proofs.lemmas.Result.{err_from_is_err_and}
use Rattle.no_read_attributes.proofs.AttributeLaws.{skip_fail, skip_stop}
use Rattle.no_read_attributes.proofs.attribute.skip_attributes.Goals as goal

pub returns-in_err-item : goal.returns-in_err-item
returns-in_err-item c =
    let p = err_from_is_err_and c.from_residual.result c.from_residual.ensures.1 in
    rw (p.1, p.2) (skip_fail c.args.text.now c.in_err-item.field-0.0 c.loop-item.rest.now _ c.in_err-item.ensures c.loop-item.invariant)

pub returns-in-None : goal.returns-in-None
returns-in-None c = skip_stop c.args.text.now c.loop-item.rest.now c.in_ok-item.after.now c.in_ok-item.item _ c.in_ok-item.ensures c.in-None.is c.loop-item.invariant
