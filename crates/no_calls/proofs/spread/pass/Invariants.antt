use Rattle.std.proofs.Common.{ℕ, ◌+◌, ◌≡◌, List, length, drop}
use Rattle.no_calls.specs.Spreading.{Noted, Turning}
use Rattle.no_calls.proofs.spread.pass.Given as goal

abbrev pub invariant-loop-number : goal.invariant-loop-number
invariant-loop-number l = record {
  noted : Noted (λ _. Unit {0}) (l.level + 1) l.fn.found l.found;
  wide : length l.done ≡ length l.fn.done;
  turning : (starts : List ℕ) (n : ℕ) → Turning l.up l.down starts n l.level l.waiting l.fn.done l.fn.found → Turning l.up l.down starts n l.level (drop l.number-index l.waiting) l.done l.found;
}
