use Rattle.std.proofs.lemmas.Result.{err_from_is_err_and}
use Rattle.no_read_rules.specs.Scope.{seen}
use Rattle.no_read_toplevel.proofs.TopsLaws.{tops_go, tops_fail, tops_stop, tops_fall}
use Rattle.no_read_toplevel.proofs.tops.tops.Goals as goal

pub returns-in_err-top : goal.returns-in_err-top
returns-in_err-top c =
    let p = err_from_is_err_and c.from_residual.result c.from_residual.ensures.1 in
    rw (p.1, p.2) (tops_fail (seen c.args.scope.now) c.args.role c.in_err-top.field-0.0 c.loop-all.all.items c.loop-all.stated c.loop-all.rest.now _ c.in_err-top.ensures c.loop-all.invariant)

pub returns-in-None : goal.returns-in-None
returns-in-None c = tops_stop (seen c.args.scope.now) c.args.role c.loop-all.all.items c.loop-all.stated c.in_ok-top.now c.loop-all.rest.now c.in_ok-top.after.now c.in_ok-top.top _ c.in_ok-top.ensures c.in-None.is c.loop-all.invariant

pub loop-all-smaller : goal.loop-all-smaller
loop-all-smaller c = tops_fall (seen c.args.scope.now) c.args.role c.loop-all.stated c.in_ok-top.now c.loop-all.rest.now c.in_ok-top.after.now c.in_ok-top.top c.in-Some.top c.in_ok-top.ensures c.in-Some.is

pub loop-all-preserved : goal.loop-all-preserved
loop-all-preserved c = rw c.in_ok-keep-in-Some.ensures (tops_go (seen c.args.scope.now) c.args.role c.loop-all.all.items c.loop-all.stated c.in_ok-top.now c.loop-all.rest.now c.in_ok-top.after.now c.in_ok-top.top c.in-Some.top _ c.in_ok-top.ensures c.in-Some.is c.loop-all.invariant)
