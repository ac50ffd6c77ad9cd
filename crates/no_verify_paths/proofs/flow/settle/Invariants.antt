use Rattle.std.proofs.Common.{◌≡◌, ℕ, ◌+◌, ◌*◌, length, sum}
use Rattle.no_verify_paths.specs.Flow.{Flowing, row}
use Rattle.no_verify_paths.proofs.flow.settle.Given as goal

abbrev pub invariant-loop-block : goal.invariant-loop-block
invariant-loop-block l = record {
  flowing : (start : ℕ) → Flowing (row l.next) l.gens start l.fn.sets l.fn.queue → Flowing (row l.next) l.gens start l.sets l.queue;
  room : l.queue.room ≡ length l.sets;
}

abbrev pub decreases-loop-block : goal.decreases-loop-block
decreases-loop-block l = 2 * sum l.sets + length l.queue.blocks
