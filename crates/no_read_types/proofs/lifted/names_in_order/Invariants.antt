use Rattle.std.proofs.Common.{◌≡◌, [], drop}
use Rattle.no_read_types.specs.Lifted.{names_with, picked}
use Rattle.no_read_types.proofs.lifted.names_in_order.Given as goal

abbrev pub invariant-loop-n : goal.invariant-loop-n
invariant-loop-n l = names_with l.names (picked l.defined (drop l.n-index l.order)) ≡ names_with [] (picked l.defined l.order)
