use Rattle.no_round_trip.proofs.TopModules.{law}
use Rattle.no_round_trip.proofs.modules.modules_mean_again.Goals as goal

pub returns : goal.returns
returns c = law
