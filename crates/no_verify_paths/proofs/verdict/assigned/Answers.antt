use Rattle.std.proofs.Common.{◌≡◌, ℕ, Option, None, sym}
use Rattle.std.proofs.lemmas.Result.{IfOk-weaker}
use Rattle.no_verify_paths.specs.Paths.{IsAnswer}
use Rattle.no_verify_paths.proofs.Noting.{labels_are}
use Rattle.no_verify_paths.proofs.Judging.{one_answer}
use Rattle.no_verify_paths.proofs.Deciding.{empty_answer}
use Rattle.no_verify_paths.proofs.verdict.assigned.Goals as goal

pub returns-then-is_empty-clause-answer : goal.returns-then-is_empty-clause-answer
returns-then-is_empty-clause-answer c = empty_answer c.args.function.now c.as_slice-blocks.result.now c.as_slice-blocks.ensures (sym c.if-is_empty.ensures)

pub returns-then-is_empty-clause-only : goal.returns-then-is_empty-clause-only
returns-then-is_empty-clause-only c = λ other a. one_answer c.args.function.now other None a (empty_answer c.args.function.now c.as_slice-blocks.result.now c.as_slice-blocks.ensures (sym c.if-is_empty.ensures))

pub draw-requires-clause-labels : goal.draw-requires-clause-labels
draw-requires-clause-labels c = labels_are c.args.function.now c.as_slice.result.now c.in_ok-labels.labels.items c.as_slice-blocks.result.now c.as_slice.ensures.value c.as_slice-blocks.ensures c.in_ok-labels.ensures

pub returns-clause-only : goal.returns-clause-only
returns-clause-only c = IfOk-weaker c.judge_rows.result (IsAnswer c.args.function.now) (λ found. (other : Option (ℕ × ℕ)) → IsAnswer c.args.function.now other → other ≡ found) (λ found is other a. one_answer c.args.function.now other found a is) c.judge_rows.ensures
