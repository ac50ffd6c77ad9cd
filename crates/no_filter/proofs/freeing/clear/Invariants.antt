use Rattle.std.proofs.Common.{◌≡◌, length, take}
use Rattle.no_filter.specs.Verdicts.{Cleared}
use Rattle.no_filter.proofs.freeing.clear.Given as goal

abbrev pub invariant-loop-k : goal.invariant-loop-k
invariant-loop-k l = record { wide : length l.flags.items ≡ length l.fn.flags.items; cleared : Cleared (take l.k-index l.ks) l.fn.flags.items l.flags.items }
