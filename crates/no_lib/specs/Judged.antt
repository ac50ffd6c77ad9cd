-- What a copy answers before it is done, by what its two accesses would answer.
use Rattle.std.specs.Prelude.{ℕ, min, Bool, true, false, Option, Some, None}
use Rattle.no_layout.specs.declared.memory.Access.{Access}
use Rattle.no_layout.specs.declared.memory.Access.TheVariants.{Done, Missing, Refused}
use Rattle.no_lib.specs.declared.answer.LibAnswer.{LibAnswer}
use Rattle.no_lib.specs.declared.answer.LibAnswer.TheVariants as answer

-- refusals come first, that of the bytes read before that of those written; then a cost above what is left; then the lowest page
abbrev pub judged : Access → Access → Bool → Option LibAnswer
judged (Refused trap) target dear = Some (answer.Trapped trap)
judged (Missing page) (Refused trap) dear = Some (answer.Trapped trap)
judged (Missing page) (Missing other) true = Some answer.Over
judged (Missing page) (Missing other) false = Some (answer.WantPage (min page other))
judged (Missing page) Done true = Some answer.Over
judged (Missing page) Done false = Some (answer.WantPage page)
judged Done (Refused trap) dear = Some (answer.Trapped trap)
judged Done (Missing other) true = Some answer.Over
judged Done (Missing other) false = Some (answer.WantPage other)
judged Done Done true = Some answer.Over
judged Done Done false = None
