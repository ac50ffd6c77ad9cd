use Rattle.std.proofs.Common.{◌≡◌, ◌+◌, ◌%◌, ◌^◌, ◌<◌, drop}
use Rattle.no_machine.specs.Did.{leads}
use Rattle.no_machine.proofs.paths.walk.Given as goal

abbrev pub invariant-loop-one : goal.invariant-loop-one
invariant-loop-one l = record {
  range : l.at < 2 ^ 64;
  sum : (l.at + leads l.window l.constants l.pointer (drop l.one-index l.steps)) % 2 ^ 64 ≡ (l.base + leads l.window l.constants l.pointer l.steps) % 2 ^ 64;
}
