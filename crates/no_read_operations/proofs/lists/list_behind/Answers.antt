use Rattle.std.proofs.Common.{sym, ◌∙◌}
use Rattle.std.proofs.lemmas.Result.{err_from_is_err_and}
use Rattle.no_read_rules.specs.Scope.{seen}
use Rattle.no_read_operations.proofs.FoldedLaws.{goes_on, fails, stops, shorter}
use Rattle.no_read_operations.specs.Ends.{is_comma, list_step}
use Rattle.no_read_operations.proofs.FormLaws.{list_step_good, list_step_solid}
use Rattle.no_read_operations.proofs.lists.list_behind.Goals as goal

pub returns-in_err-next : goal.returns-in_err-next
returns-in_err-next g c =
    let m = seen c.args.scope.now in
    let item = g.I.Item.rule c.args.kind.now m in
    let good = c.requires.good in
    let solid = c.requires.solid in
    let p = err_from_is_err_and c.from_residual.result c.from_residual.ensures.1 in
    rw (p.1, p.2) (fails (is_comma m.text) (list_step m.text c.args.role item) (list_step_good m.text c.args.role item good solid) (list_step_solid m.text c.args.role item good solid) c.in_err-next.field-0.0 c.loop-alloc.listed c.loop-alloc.locals c.loop-alloc.rest.now _ (sym c.comma_next.ensures ∙ c.loop-alloc-test.true) c.in_err-next.ensures c.loop-alloc.invariant)

pub loop-alloc-smaller : goal.loop-alloc-smaller
loop-alloc-smaller g c =
    let m = seen c.args.scope.now in
    let item = g.I.Item.rule c.args.kind.now m in
    let good = c.requires.good in
    let solid = c.requires.solid in
    shorter (is_comma m.text) (list_step m.text c.args.role item) (list_step_good m.text c.args.role item good solid) (list_step_solid m.text c.args.role item good solid) c.loop-alloc.listed c.in_ok-next.next c.loop-alloc.locals c.list_step.new.locals c.loop-alloc.rest.now c.in_ok-next.after.now c.in_ok-next.ensures

pub loop-alloc-preserved : goal.loop-alloc-preserved
loop-alloc-preserved g c =
    let m = seen c.args.scope.now in
    let item = g.I.Item.rule c.args.kind.now m in
    let good = c.requires.good in
    let solid = c.requires.solid in
    goes_on (is_comma m.text) (list_step m.text c.args.role item) (list_step_good m.text c.args.role item good solid) (list_step_solid m.text c.args.role item good solid) c.loop-alloc.listed c.in_ok-next.next c.loop-alloc.locals c.list_step.new.locals c.loop-alloc.rest.now c.in_ok-next.after.now _ (sym c.comma_next.ensures ∙ c.loop-alloc-test.true) c.in_ok-next.ensures c.loop-alloc.invariant

pub returns : goal.returns
returns g c =
    let m = seen c.args.scope.now in
    let item = g.I.Item.rule c.args.kind.now m in
    let good = c.requires.good in
    let solid = c.requires.solid in
    stops (is_comma m.text) (list_step m.text c.args.role item) (list_step_good m.text c.args.role item good solid) (list_step_solid m.text c.args.role item good solid) c.loop-alloc.listed c.loop-alloc.locals c.loop-alloc.rest.now _ (sym c.comma_next.ensures ∙ c.loop-alloc-test.false) c.loop-alloc.invariant
