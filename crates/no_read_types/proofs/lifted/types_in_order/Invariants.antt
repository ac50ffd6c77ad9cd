use Rattle.std.proofs.Common.{◌≡◌, ◌++◌, drop}
use Rattle.no_read_types.specs.Lifted.{types_in, number_in, picked}
use Rattle.no_read_types.proofs.lifted.types_in_order.Given as goal

abbrev pub invariant-loop-n : goal.invariant-loop-n
invariant-loop-n l = l.all ++ types_in (number_in l.numbers) (picked l.defined (drop l.n-index l.order)) ≡ types_in (number_in l.numbers) (picked l.defined l.order)
