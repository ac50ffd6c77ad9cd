use Rattle.std.proofs.Common.{◌≡◌, vec_len}
use Rattle.no_calls.proofs.Tables.{IsTurned}
use Rattle.no_calls.proofs.rows.reversed.Given as goal

abbrev pub invariant-loop-a : goal.invariant-loop-a
invariant-loop-a l = record { wide : vec_len l.back ≡ l.count; turned : IsTurned l.rows l.back.items l.a }
