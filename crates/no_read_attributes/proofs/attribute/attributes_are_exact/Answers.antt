use Rattle.no_read_attributes.proofs.AttributeLaws.{marks_good}
use Rattle.no_read_attributes.proofs.attribute.attributes_are_exact.Goals as goal

pub returns : goal.returns
returns c = λ text role. marks_good text role
