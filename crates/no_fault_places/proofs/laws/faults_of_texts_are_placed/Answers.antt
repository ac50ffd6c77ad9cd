use Rattle.no_fault_places.proofs.Whole.{text_placed}
use Rattle.no_fault_places.proofs.laws.faults_of_texts_are_placed.Goals as goal

pub returns : goal.returns
returns c = text_placed
