-- the pairs so far, and those that are left, are all of them
use Rattle.std.proofs.Common.{◌≡◌, ◌+◌, ◌-◌, ◌*◌, ◌≤◌, ◌++◌, length}
use Rattle.no_wire.specs.Reading.{all_pairs, pairs_in}
use Rattle.no_wire.proofs.numbers.pairs.Given as goal

abbrev pub invariant-loop : goal.invariant-loop
invariant-loop l = record {
  so_far : l.all ++ pairs_in (l.end - l.counter) l.rest ≡ all_pairs l.bytes;
  left : 8 * l.end ≤ length l.rest + 8 * l.counter;
}
