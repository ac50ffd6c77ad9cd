use Rattle.no_round_trip.proofs.LexModules.{module_fits}
use Rattle.no_round_trip.proofs.lexing.modules_fit.Goals as goal

pub returns : goal.returns
returns c = module_fits
