use Rattle.no_fault_places.proofs.Whole.{placed}
use Rattle.no_fault_places.proofs.laws.faults_of_forms_are_placed.Goals as goal

pub returns : goal.returns
returns c = placed
