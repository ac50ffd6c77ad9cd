use Rattle.std.proofs.Common.{◌≡◌, ◌<◌, ℕ, vec_len}
use Rattle.std.specs.List.{Contains}
use Rattle.no_calls.specs.Rows.{row}
use Rattle.no_calls.specs.Nearest.{IsNearest, near_at}
use Rattle.no_calls.proofs.nearest.nearest_all.Given as goal

abbrev pub invariant-loop-row : goal.invariant-loop-row
invariant-loop-row l = record { wide : vec_len l.near ≡ l.row-index; all : (s : ℕ) → s < l.row-index → IsNearest (Contains (row l.members s)) l.far (near_at l.near.items s) }
