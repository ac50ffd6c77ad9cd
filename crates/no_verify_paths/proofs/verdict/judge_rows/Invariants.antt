use Rattle.std.proofs.Common.{None}
use Rattle.no_verify_paths.specs.Judge.{InRows, Judged}
use Rattle.no_verify_paths.proofs.verdict.judge_rows.Given as goal

abbrev pub invariant-loop-number : goal.invariant-loop-number
invariant-loop-number l = Judged l.function (InRows l.sketch.book.needs.items l.number) None l.found
