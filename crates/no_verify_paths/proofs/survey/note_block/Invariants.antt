use Rattle.no_verify_paths.specs.Survey.{IsNotebook}
use Rattle.no_verify_paths.proofs.survey.note_block.Given as goal

abbrev pub invariant-loop-place : goal.invariant-loop-place
invariant-loop-place l = IsNotebook l.function l.book l.number l.place
