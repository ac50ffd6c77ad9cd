use Rattle.no_round_trip.proofs.ConstPlaces.{place_again}
use Rattle.no_round_trip.proofs.constants.places_mean_again.Goals as goal

pub returns : goal.returns
returns c m text depth gap tokens place bytes r = (place_again m text bytes depth gap tt tt tt tokens place tt r).2
