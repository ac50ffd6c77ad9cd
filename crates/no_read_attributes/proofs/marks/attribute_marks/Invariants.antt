use Rattle.std.proofs.Common.{◌≡◌, [], length}
use Rattle.no_read_attributes.proofs.AttributeLaws.{marked_from}
use Rattle.no_read_attributes.proofs.marks.attribute_marks.Given as goal

abbrev pub invariant-loop-all : goal.invariant-loop-all
invariant-loop-all l = marked_from l.text l.role l.all l.rest ≡ marked_from l.text l.role [] l.tokens

abbrev pub decreases-loop-all : goal.decreases-loop-all
decreases-loop-all l = length l.rest
