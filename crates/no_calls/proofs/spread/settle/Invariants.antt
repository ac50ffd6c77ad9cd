use Rattle.std.proofs.Common.{ℕ, ◌+◌, ◌≡◌, ◌≤◌, List, [], length}
use Rattle.no_calls.specs.Spreading.{Turning, unmet}
use Rattle.no_calls.proofs.spread.settle.Given as goal

abbrev pub invariant-loop-alloc : goal.invariant-loop-alloc
invariant-loop-alloc l = record {
  room : l.level + (unmet l.found.far.items + length l.waiting.items) ≤ length l.found.far.items;
  wide : length l.done ≡ length l.fn.done;
  count : length l.found.far.items ≡ length l.fn.found.far.items;
  none : l.found.next.items ≡ [];
  turning : (starts : List ℕ) (n : ℕ) → Turning l.up l.down starts n 0 l.fn.waiting.items l.fn.done l.fn.found → Turning l.up l.down starts n l.level l.waiting.items l.done l.found;
}

abbrev pub decreases-loop-alloc : goal.decreases-loop-alloc
decreases-loop-alloc l = unmet l.found.far.items + length l.waiting.items
