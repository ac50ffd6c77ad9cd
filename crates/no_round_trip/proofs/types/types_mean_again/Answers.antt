use Rattle.no_round_trip.proofs.ConstFirst.{read_fits}
use Rattle.no_round_trip.proofs.TypeAgain.{type_again, same_again}
use Rattle.no_round_trip.proofs.types.types_mean_again.Goals as goal

pub returns-clause-any : goal.returns-clause-any
returns-clause-any c m text depth gap tokens t bytes r = (type_again m text bytes depth gap tt tt tt tokens t tt r).2

pub returns-clause-wanted : goal.returns-clause-wanted
returns-clause-wanted c m text depth gap tokens want bytes r = same_again m text bytes depth want gap tokens r

pub returns-clause-fits : goal.returns-clause-fits
returns-clause-fits c = read_fits
