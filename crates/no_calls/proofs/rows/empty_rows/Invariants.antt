use Rattle.std.proofs.Common.{◌≡◌, ℕ, [], vec_len}
use Rattle.no_calls.specs.Rows.{row}
use Rattle.no_calls.proofs.rows.empty_rows.Given as goal

abbrev pub invariant-loop : goal.invariant-loop
invariant-loop l = record { wide : vec_len l.rows ≡ l.counter; empty : (s : ℕ) → row l.rows.items s ≡ [] }
