use Rattle.no_round_trip.proofs.LexModules.{module_lexes}
use Rattle.no_round_trip.proofs.lexing.a_module_lexes.Goals as goal

pub returns : goal.returns
returns c = module_lexes
