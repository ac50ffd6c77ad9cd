use Rattle.no_eval.proofs.Within.{binary_within, cast_within}
use Rattle.no_eval.proofs.laws.results_are_within.Goals as goal

pub returns-clause-binary : goal.returns-clause-binary
returns-clause-binary c = binary_within

pub returns-clause-cast : goal.returns-clause-cast
returns-clause-cast c = cast_within
