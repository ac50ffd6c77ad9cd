-- so far the pairs before this one stand behind what was there
use Rattle.std.proofs.Common.{◌≡◌, ◌++◌, take}
use Rattle.std.specs.List.{flat_map}
use Rattle.no_wire.specs.Messages.{pair_bytes}
use Rattle.no_wire.proofs.encoding.put_pairs.Given as goal

abbrev pub invariant-loop-place : goal.invariant-loop-place
invariant-loop-place l = l.into.items ≡ l.fn.into.items ++ flat_map pair_bytes (take l.place-index l.pairs)
