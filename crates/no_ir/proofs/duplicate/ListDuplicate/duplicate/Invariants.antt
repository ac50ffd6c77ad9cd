use Rattle.std.proofs.Common.{◌≡◌, take}
use Rattle.no_ir.proofs.duplicate.ListDuplicate.duplicate.Given as goal

abbrev pub invariant-loop-item : goal.invariant-loop-item
invariant-loop-item g l = l.all ≡ take l.item-index l.item-items
