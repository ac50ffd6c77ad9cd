use Rattle.std.proofs.Common.{◌≡◌, take}
use Rattle.no_ir.proofs.types.Ty.+copy.Given as goal

abbrev pub invariant-loop-field : goal.invariant-loop-field
invariant-loop-field l = l.all ≡ take l.field-index l.field-items
