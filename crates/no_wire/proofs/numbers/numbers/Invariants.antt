-- the numbers so far, and those that are left, are all of them
use Rattle.std.proofs.Common.{◌≡◌, ◌+◌, ◌-◌, ◌*◌, ◌≤◌, ◌++◌, length}
use Rattle.no_wire.specs.Reading.{all_numbers, numbers_in}
use Rattle.no_wire.proofs.numbers.numbers.Given as goal

abbrev pub invariant-loop : goal.invariant-loop
invariant-loop l = record {
  so_far : l.all ++ numbers_in (l.end - l.counter) l.rest ≡ all_numbers l.bytes;
  left : 8 * l.end ≤ length l.rest + 8 * l.counter;
}
