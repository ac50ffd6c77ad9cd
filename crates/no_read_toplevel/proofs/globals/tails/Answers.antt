use Rattle.std.proofs.lemmas.Result.{err_from_is_err_and}
use Rattle.no_read_toplevel.proofs.GlobalLaws.{tails_fail, tails_stop, tails_go, tails_fall}
use Rattle.no_read_toplevel.proofs.globals.tails.Goals as goal

pub returns-in_err-item : goal.returns-in_err-item
returns-in_err-item c =
    let p = err_from_is_err_and c.from_residual.result c.from_residual.ensures.1 in
    rw (p.1, p.2) (tails_fail c.args.text.now c.in_err-item.field-0.0 c.loop-item.found c.loop-item.rest.now _ c.in_err-item.ensures c.loop-item.invariant)

pub returns-in-None : goal.returns-in-None
returns-in-None c = tails_stop c.args.text.now c.loop-item.found c.loop-item.rest.now c.in_ok-item.after.now c.in_ok-item.item _ c.in_ok-item.ensures c.in-None.is c.loop-item.invariant

pub loop-item-smaller : goal.loop-item-smaller
loop-item-smaller c = tails_fall c.args.text.now c.loop-item.rest.now c.in_ok-item.after.now c.in_ok-item.item c.in-Some.align c.in_ok-item.ensures c.in-Some.is

pub loop-item-preserved : goal.loop-item-preserved
loop-item-preserved c =
    tails_go c.args.text.now c.loop-item.found c.latest-found.result c.loop-item.rest.now c.in_ok-item.after.now c.in_ok-item.item c.in-Some.align _ c.in_ok-item.ensures c.in-Some.is c.latest-found.ensures c.loop-item.invariant
