use Rattle.std.proofs.Common.{◌≡◌, ℕ, ◌+◌, ◌-◌, vec_len}
use Rattle.no_verify_paths.specs.Survey.{at}
use Rattle.no_verify_paths.proofs.rows.put.Given as goal

abbrev pub invariant-loop-table : goal.invariant-loop-table
invariant-loop-table l = (i : ℕ) → at l.table.items i ≡ at l.fn.table.items i

abbrev pub decreases-loop-table : goal.decreases-loop-table
decreases-loop-table l = l.number + 1 - vec_len l.table
