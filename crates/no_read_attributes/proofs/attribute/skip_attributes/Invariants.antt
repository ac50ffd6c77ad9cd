use Rattle.std.proofs.Common.{◌≡◌, length}
use Rattle.no_read_attributes.proofs.AttributeLaws.{skipped_from}
use Rattle.no_read_attributes.proofs.attribute.skip_attributes.Given as goal

abbrev pub invariant-loop-item : goal.invariant-loop-item
invariant-loop-item l = skipped_from l.text l.rest ≡ skipped_from l.text l.tokens

abbrev pub decreases-loop-item : goal.decreases-loop-item
decreases-loop-item l = length l.rest
