use Rattle.no_verify_paths.specs.Survey.{IsNotebook}
use Rattle.no_verify_paths.proofs.survey.survey.Given as goal

abbrev pub invariant-loop-number : goal.invariant-loop-number
invariant-loop-number l = IsNotebook l.function l.book l.number 0
