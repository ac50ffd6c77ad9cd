use Rattle.std.proofs.Common.{◌≡◌, bytes_eq, length}
use Rattle.no_read_rules.specs.Unescaped.{unescaped}
use Rattle.no_read_attributes.proofs.marks.spells.Given as goal

abbrev pub invariant-loop-left : goal.invariant-loop-left
invariant-loop-left l = bytes_eq (unescaped l.rest) l.left ≡ bytes_eq (unescaped l.bytes) l.want

abbrev pub decreases-loop-left : goal.decreases-loop-left
decreases-loop-left l = length l.left
