use Rattle.std.proofs.Common.{◌≡◌, ◌++◌, take}
use Rattle.std.specs.List.{flat_map}
use Rattle.no_verify_paths.specs.Paths.{pair_use}
use Rattle.no_verify_paths.proofs.operands.list_pairs.Given as goal

abbrev pub invariant-loop-pair : goal.invariant-loop-pair
invariant-loop-pair l = l.out.items ≡ l.fn.out.items ++ flat_map pair_use (take l.pair-index l.pairs)
