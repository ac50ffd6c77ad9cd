use Rattle.std.proofs.Common.{◌≡◌, length}
use Rattle.no_verify_types.specs.Tables.{overwritten}
use Rattle.no_verify_types.proofs.registers.write_types.Given as goal

abbrev pub invariant-loop-register : goal.invariant-loop-register
invariant-loop-register l = overwritten l.types.items l.rest.items ≡ overwritten l.fn.types.items l.fn.defined.items

abbrev pub decreases-loop-register : goal.decreases-loop-register
decreases-loop-register l = length l.rest.items
