use Rattle.std.proofs.lemmas.Result.{err_from_is_err_and}
use Rattle.no_read_rules.specs.Scope.{seen}
use Rattle.no_read_functions.proofs.HeadLaws.{params_fail, params_stop, params_fall, params_go}
use Rattle.no_read_functions.proofs.heads.more_params.Goals as goal

pub returns-in_err-item : goal.returns-in_err-item
returns-in_err-item c =
    let p = err_from_is_err_and c.from_residual-in_err-item.result c.from_residual-in_err-item.ensures.1 in
    rw (p.1, p.2) (params_fail (seen c.args.scope.now) c.args.named c.in_err-item.field-0.0 c.loop-all.all c.loop-all.locals c.loop-all.rest.now _ c.in_err-item.ensures c.loop-all.invariant)

pub returns-in-None : goal.returns-in-None
returns-in-None c = params_stop (seen c.args.scope.now) c.args.named c.loop-all.all c.loop-all.locals c.more_param.new.locals c.loop-all.rest.now c.in_ok-item.after.now c.in_ok-item.item _ c.in_ok-item.ensures c.in-None.is c.loop-all.invariant

pub loop-all-smaller : goal.loop-all-smaller
loop-all-smaller c = params_fall (seen c.args.scope.now) c.args.named c.loop-all.locals c.more_param.new.locals c.loop-all.rest.now c.in_ok-item.after.now c.in_ok-item.item c.in_ok-item.ensures

pub loop-all-preserved : goal.loop-all-preserved
loop-all-preserved c = rw c.in_ok-push-in-Some.ensures.ok (params_go (seen c.args.scope.now) c.args.named c.loop-all.all c.loop-all.locals c.more_param.new.locals c.loop-all.rest.now c.in_ok-item.after.now c.in_ok-item.item c.in-Some.param _ c.in_ok-item.ensures c.in-Some.is c.loop-all.invariant)
