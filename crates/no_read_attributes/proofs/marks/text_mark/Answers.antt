use Rattle.std.proofs.Common.{refl, sym}
use Rattle.no_read_attributes.proofs.marks.text_mark.Goals as goal

pub returns-else-says : goal.returns-else-says
returns-else-says c = rw (sym c.if-says.ensures) refl
