use Rattle.no_semantics.proofs.Running.{steps_compose}
use Rattle.no_semantics.proofs.laws.steps_compose.Goals as goal

pub returns : goal.returns
returns c = steps_compose
