use Rattle.std.proofs.Common.{ℕ, ◌<◌, length, take}
use Rattle.std.specs.List.{Contains}
use Rattle.no_calls.specs.Spreading.{IsFound, Noted}
use Rattle.no_calls.proofs.spread.begin.Given as goal

abbrev pub invariant-loop-start : goal.invariant-loop-start
invariant-loop-start l = record {
  noted : Noted (Contains l.starts) 0 l.fn.found l.found;
  there : (k : ℕ) → k < length l.fn.found.far.items → Contains (take l.start-index l.starts) k → IsFound l.found.far.items k;
}
