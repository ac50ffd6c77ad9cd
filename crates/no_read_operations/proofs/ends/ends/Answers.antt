use Rattle.std.proofs.Common.{sym, ◌∙◌}
use Rattle.std.proofs.lemmas.Result.{err_from_is_err_and}
use Rattle.no_read_operations.specs.Ends.{is_comma, end_step}
use Rattle.no_read_operations.proofs.FoldedLaws.{goes_on, fails, stops, shorter}
use Rattle.no_read_operations.proofs.FormLaws.{end_step_good, end_step_solid}
use Rattle.no_read_operations.proofs.ends.ends.Goals as goal

pub returns-in_err-next : goal.returns-in_err-next
returns-in_err-next c =
    let t = c.args.text.now in
    let r = c.args.role in
    let p = err_from_is_err_and c.from_residual.result c.from_residual.ensures.1 in
    rw (p.1, p.2) (fails (is_comma t) (end_step t r) (end_step_good t r) (end_step_solid t r) c.in_err-next.field-0.0 c.loop-role.ending tt c.loop-role.rest.now _ (sym c.comma_next.ensures ∙ c.loop-role-test.true) c.in_err-next.ensures c.loop-role.invariant)

pub loop-role-smaller : goal.loop-role-smaller
loop-role-smaller c =
    let t = c.args.text.now in
    let r = c.args.role in
    shorter (is_comma t) (end_step t r) (end_step_good t r) (end_step_solid t r) c.loop-role.ending c.in_ok-next.next tt tt c.loop-role.rest.now c.in_ok-next.after.now c.in_ok-next.ensures

pub loop-role-preserved : goal.loop-role-preserved
loop-role-preserved c =
    let t = c.args.text.now in
    let r = c.args.role in
    goes_on (is_comma t) (end_step t r) (end_step_good t r) (end_step_solid t r) c.loop-role.ending c.in_ok-next.next tt tt c.loop-role.rest.now c.in_ok-next.after.now _ (sym c.comma_next.ensures ∙ c.loop-role-test.true) c.in_ok-next.ensures c.loop-role.invariant

pub returns : goal.returns
returns c =
    let t = c.args.text.now in
    let r = c.args.role in
    stops (is_comma t) (end_step t r) (end_step_good t r) (end_step_solid t r) c.loop-role.ending tt c.loop-role.rest.now _ (sym c.comma_next.ensures ∙ c.loop-role-test.false) c.loop-role.invariant
