use Rattle.std.proofs.Common.{sym, ◌∙◌}
use Rattle.std.proofs.lemmas.Result.{err_from_is_err_and}
use Rattle.no_read_rules.specs.Scope.{seen}
use Rattle.no_read_operations.proofs.FoldedLaws.{goes_on, fails, stops, shorter}
use Rattle.no_read_operations.specs.Ends.{is_comma}
use Rattle.no_read_operations.specs.Memory.{alloca_step}
use Rattle.no_read_operations.proofs.FormLaws.{alloca_step_good, alloca_step_solid}
use Rattle.no_read_operations.proofs.memory.alloca_ends.Goals as goal

pub returns-in_err-next : goal.returns-in_err-next
returns-in_err-next c =
    let m = seen c.args.scope.now in
    let r = c.args.role in
    let p = err_from_is_err_and c.from_residual.result c.from_residual.ensures.1 in
    rw (p.1, p.2) (fails (is_comma m.text) (alloca_step m r) (alloca_step_good m r) (alloca_step_solid m r) c.in_err-next.field-0.0 c.loop-alloc.end c.loop-alloc.locals c.loop-alloc.rest.now _ (sym c.comma_next.ensures ∙ c.loop-alloc-test.true) c.in_err-next.ensures c.loop-alloc.invariant)

pub loop-alloc-smaller : goal.loop-alloc-smaller
loop-alloc-smaller c =
    let m = seen c.args.scope.now in
    let r = c.args.role in
    shorter (is_comma m.text) (alloca_step m r) (alloca_step_good m r) (alloca_step_solid m r) c.loop-alloc.end c.in_ok-next.next c.loop-alloc.locals c.alloca_step.new.locals c.loop-alloc.rest.now c.in_ok-next.after.now c.in_ok-next.ensures

pub loop-alloc-preserved : goal.loop-alloc-preserved
loop-alloc-preserved c =
    let m = seen c.args.scope.now in
    let r = c.args.role in
    goes_on (is_comma m.text) (alloca_step m r) (alloca_step_good m r) (alloca_step_solid m r) c.loop-alloc.end c.in_ok-next.next c.loop-alloc.locals c.alloca_step.new.locals c.loop-alloc.rest.now c.in_ok-next.after.now _ (sym c.comma_next.ensures ∙ c.loop-alloc-test.true) c.in_ok-next.ensures c.loop-alloc.invariant

pub returns : goal.returns
returns c =
    let m = seen c.args.scope.now in
    let r = c.args.role in
    stops (is_comma m.text) (alloca_step m r) (alloca_step_good m r) (alloca_step_solid m r) c.loop-alloc.end c.loop-alloc.locals c.loop-alloc.rest.now _ (sym c.comma_next.ensures ∙ c.loop-alloc-test.false) c.loop-alloc.invariant
