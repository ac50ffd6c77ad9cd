use Rattle.std.proofs.Common.{◌≡◌, ℕ, ◌+◌, ◌-◌, vec_len}
use Rattle.no_verify_paths.specs.Flow.{row}
use Rattle.no_verify_paths.proofs.rows.add_to_row.Given as goal

abbrev pub invariant-loop-alloc : goal.invariant-loop-alloc
invariant-loop-alloc g l = (i : ℕ) → row l.rows.items i ≡ row l.fn.rows.items i

abbrev pub decreases-loop-alloc : goal.decreases-loop-alloc
decreases-loop-alloc g l = l.number + 1 - vec_len l.rows
