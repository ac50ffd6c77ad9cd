use Rattle.std.proofs.lemmas.Result.{err_from_is_err_and}
use Rattle.no_read_rules.specs.Rules.{none}
use Rattle.no_read_rules.specs.Scope.{seen}
use Rattle.no_read_rules.proofs.Repeats.{fails, stops, shorter, goes_on}
use Rattle.no_read_operations.specs.Flow.{more_case}
use Rattle.no_read_operations.proofs.FormLaws.{more_case_good, more_case_solid}
use Rattle.no_read_operations.proofs.flow.cases.Goals as goal

pub returns-in_err-item : goal.returns-in_err-item
returns-in_err-item c =
    let m = seen c.args.scope.now in
    let w = c.args.width in
    let p = err_from_is_err_and c.from_residual.result c.from_residual.ensures.1 in
    rw (p.1, p.2) (fails none (more_case m w) (more_case_good m w) (more_case_solid m w) c.in_err-item.field-0.0 c.loop-all.all c.loop-all.locals c.loop-all.rest.now _ c.in_err-item.ensures c.loop-all.invariant)

pub returns-in-None : goal.returns-in-None
returns-in-None c =
    let m = seen c.args.scope.now in
    let w = c.args.width in
    stops none (more_case m w) (more_case_good m w) (more_case_solid m w) c.loop-all.all c.loop-all.locals c.more_case.new.locals c.loop-all.rest.now c.in_ok-item.after.now c.in_ok-item.item _ c.in_ok-item.ensures c.in-None.is c.loop-all.invariant

pub loop-all-smaller : goal.loop-all-smaller
loop-all-smaller c =
    let m = seen c.args.scope.now in
    let w = c.args.width in
    shorter none (more_case m w) (more_case_good m w) (more_case_solid m w) c.loop-all.locals c.more_case.new.locals c.loop-all.rest.now c.in_ok-item.after.now c.in_ok-item.item c.in_ok-item.ensures

pub loop-all-preserved : goal.loop-all-preserved
loop-all-preserved c =
    let m = seen c.args.scope.now in
    let w = c.args.width in
    rw c.in_ok-push-in-Some.ensures.ok (goes_on none (more_case m w) (more_case_good m w) (more_case_solid m w) c.loop-all.all c.loop-all.locals c.more_case.new.locals c.loop-all.rest.now c.in_ok-item.after.now c.in_ok-item.item c.in-Some.found _ c.in_ok-item.ensures c.in-Some.is c.loop-all.invariant)
