use Rattle.std.proofs.Common.{sym, Option, ℕ, subst}
use Rattle.std.proofs.lemmas.Result.{on_ok_weaker}
use Rattle.no_verify_paths.specs.Survey.{IsTold}
use Rattle.no_verify_paths.proofs.Noting.{told_some}
use Rattle.no_verify_paths.proofs.survey.note_result.Goals as goal

pub returns-in_ok-put-in-Some : goal.returns-in_ok-put-in-Some
returns-in_ok-put-in-Some c = on_ok_weaker c.add_to_row.result (λ added. subst (λ (o : Option ℕ). IsTold o c.args.block c.args.marks.now.items c.put.new.table.items c.args.assignments.now.items c.add_to_row.new.rows.items) (sym c.in-Some.is) (told_some c.in-Some.register c.args.block c.args.marks.now.items c.put.new.table.items c.args.assignments.now.items c.add_to_row.new.rows.items c.in_ok-put-in-Some.ensures added)) c.add_to_row.ensures
