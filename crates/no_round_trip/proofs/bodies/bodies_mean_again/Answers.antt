use Rattle.no_round_trip.proofs.BodyAgain.{body_again}
use Rattle.no_round_trip.proofs.bodies.bodies_mean_again.Goals as goal

pub returns : goal.returns
returns c = body_again
