use Rattle.std.proofs.Common.{◌≡◌, ℕ, ◌<◌, vec_len}
use Rattle.no_verify_paths.specs.Paths.{successors}
use Rattle.no_verify_paths.specs.Flow.{row}
use Rattle.no_verify_paths.proofs.graph.graph.Given as goal

abbrev pub invariant-loop-block : goal.invariant-loop-block
invariant-loop-block l = record { width : vec_len l.next ≡ l.block-index; edges : (a : ℕ) → a < l.block-index → row l.next.items a ≡ successors l.function a }
