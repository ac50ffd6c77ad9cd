use Rattle.std.proofs.Common.{◌≡◌, length}
use Rattle.no_read_operations.specs.Folded.{folded_all}
use Rattle.no_read_operations.specs.Ends.{is_comma, end_step}
use Rattle.no_read_operations.proofs.ends.ends.Given as goal

abbrev pub invariant-loop-role : goal.invariant-loop-role
invariant-loop-role l = folded_all (is_comma l.text) (end_step l.text l.role) l.ending tt l.rest ≡ folded_all (is_comma l.text) (end_step l.text l.role) l.fn.start tt l.tokens

abbrev pub decreases-loop-role : goal.decreases-loop-role
decreases-loop-role l = length l.rest
