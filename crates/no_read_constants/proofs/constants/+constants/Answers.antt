use Rattle.std.proofs.lemmas.Result.{err_from_is_err_and}
use Rattle.no_read_rules.specs.Scope.{seen}
use Rattle.no_read_constants.proofs.ConstLaws.{elements_fail, elements_stop, elements_fall, elements_go, fields_fail, fields_stop, fields_fall, fields_go}
use Rattle.no_read_constants.proofs.constants.+constants.Goals as goal

pub more_elements-returns-in_err-item : goal.more_elements-returns-in_err-item
more_elements-returns-in_err-item t c =
    let p = err_from_is_err_and c.from_residual-in_err-item.result c.from_residual-in_err-item.ensures.1 in
    rw (p.1, p.2) (elements_fail (seen c.args.scope.now) c.args.depth c.args.element.now c.in_err-item.field-0.0 c.loop-all.all c.loop-all.rest.now _ c.in_err-item.ensures c.loop-all.invariant)

pub more_elements-returns-in-None : goal.more_elements-returns-in-None
more_elements-returns-in-None t c = elements_stop (seen c.args.scope.now) c.args.depth c.args.element.now c.loop-all.all c.loop-all.rest.now c.in_ok-item.after.now c.in_ok-item.item _ c.in_ok-item.ensures c.in-None.is c.loop-all.invariant

pub more_elements-loop-all-smaller : goal.more_elements-loop-all-smaller
more_elements-loop-all-smaller t c = elements_fall (seen c.args.scope.now) c.args.depth c.args.element.now c.loop-all.rest.now c.in_ok-item.after.now c.in_ok-item.item c.in_ok-item.ensures

pub more_elements-loop-all-preserved : goal.more_elements-loop-all-preserved
more_elements-loop-all-preserved t c = rw c.in_ok-push-in-Some.ensures.ok (elements_go (seen c.args.scope.now) c.args.depth c.args.element.now c.loop-all.all c.loop-all.rest.now c.in_ok-item.after.now c.in_ok-item.item c.in-Some.constant _ c.in_ok-item.ensures c.in-Some.is c.loop-all.invariant)

pub more_fields-returns-in_err-item : goal.more_fields-returns-in_err-item
more_fields-returns-in_err-item t c =
    let p = err_from_is_err_and c.from_residual-in_err-item.result c.from_residual-in_err-item.ensures.1 in
    rw (p.1, p.2) (fields_fail (seen c.args.scope.now) c.args.depth c.in_err-item.field-0.0 c.loop-all.left.now c.loop-all.all c.loop-all.rest.now _ c.in_err-item.ensures c.loop-all.invariant)

pub more_fields-returns-in-None : goal.more_fields-returns-in-None
more_fields-returns-in-None t c = fields_stop (seen c.args.scope.now) c.args.depth c.loop-all.left.now c.loop-all.all c.loop-all.rest.now c.in_ok-item.after.now c.in_ok-item.item _ c.in_ok-item.ensures c.in-None.is c.loop-all.invariant

pub more_fields-loop-all-smaller : goal.more_fields-loop-all-smaller
more_fields-loop-all-smaller t c = fields_fall (seen c.args.scope.now) c.args.depth c.loop-all.left.now c.loop-all.rest.now c.in_ok-item.after.now c.in_ok-item.item c.in_ok-item.ensures

pub more_fields-loop-all-preserved : goal.more_fields-loop-all-preserved
more_fields-loop-all-preserved t c = rw c.in_ok-push-in-Some.ensures.ok (fields_go (seen c.args.scope.now) c.args.depth c.loop-all.left.now c.behind_first-left.result.now c.loop-all.all c.loop-all.rest.now c.in_ok-item.after.now c.in_ok-item.item c.in-Some.constant _ c.in_ok-item.ensures c.in-Some.is c.behind_first-left.ensures c.loop-all.invariant)
