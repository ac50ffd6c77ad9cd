use Rattle.std.proofs.Common.{◌≡◌, ◌+◌, length}
use Rattle.no_machine.specs.Beginning.{Grows}
use Rattle.no_machine.proofs.state.Core.grow.Given as goal

abbrev pub invariant-loop : goal.invariant-loop
invariant-loop g l = record {
  grows : Grows l.fn.self l.self;
  counts : length l.self.slots.items ≡ length l.fn.self.slots.items + l.counter;
}
