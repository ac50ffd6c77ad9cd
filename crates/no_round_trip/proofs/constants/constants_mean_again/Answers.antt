use Rattle.no_round_trip.proofs.ConstAgain.{const_again}
use Rattle.no_round_trip.proofs.constants.constants_mean_again.Goals as goal

pub returns : goal.returns
returns c m text depth t gap tokens k bytes types fits r = const_again m text bytes types depth t fits gap tokens k r
