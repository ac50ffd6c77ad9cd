-- so far the numbers before this one stand behind what was there
use Rattle.std.proofs.Common.{◌≡◌, ◌++◌, take}
use Rattle.std.specs.List.{flat_map}
use Rattle.no_wire.specs.Messages.{be64}
use Rattle.no_wire.proofs.encoding.put_numbers.Given as goal

abbrev pub invariant-loop-number : goal.invariant-loop-number
invariant-loop-number l = l.into.items ≡ l.fn.into.items ++ flat_map be64 (take l.number-index l.numbers)
