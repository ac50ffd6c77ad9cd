use Rattle.no_names.proofs.Again.{name_again, string_again}
use Rattle.no_round_trip.proofs.spelling.names_mean_again.Goals as goal

pub returns-clause-name : goal.returns-clause-name
returns-clause-name c = name_again

pub returns-clause-text : goal.returns-clause-text
returns-clause-text c = string_again
