use Rattle.std.proofs.Common.{◌≡◌, take, length}
use Rattle.no_verify_paths.specs.Flow.{Passed}
use Rattle.no_verify_paths.proofs.flow.pass.Given as goal

abbrev pub invariant-loop-target : goal.invariant-loop-target
invariant-loop-target l = record {
  passed : Passed (take l.target-index l.targets) l.out l.fn.sets l.sets l.fn.queue l.queue;
  room : l.queue.room ≡ length l.sets;
}
