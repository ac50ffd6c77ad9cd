use Rattle.no_round_trip.proofs.LiftSecond.{lifted_again, spelled_alike}
use Rattle.no_round_trip.proofs.definitions.definitions_lift_again.Goals as goal

pub returns-clause-again : goal.returns-clause-again
returns-clause-again c from read lifted m text tokens bytes is zipped stand = lifted_again from read lifted is m zipped bytes text tokens stand

pub returns-clause-spelled : goal.returns-clause-spelled
returns-clause-spelled c from read lifted m is zipped = spelled_alike from read lifted is m zipped
