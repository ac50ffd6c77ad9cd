use Rattle.std.proofs.Common.{◌≡◌, drop}
use Rattle.no_read_types.specs.Graph.{count_set}
use Rattle.no_read_types.proofs.flags.first_set.Given as goal

abbrev pub invariant-loop-flag : goal.invariant-loop-flag
invariant-loop-flag l = record { place : l.n ≡ l.flag-index; left : count_set (drop l.flag-index l.flags) ≡ count_set l.flags }
