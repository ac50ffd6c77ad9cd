use Rattle.std.proofs.Common.{take}
use Rattle.no_calls.specs.Rows.{RowsAdded}
use Rattle.no_calls.proofs.rows.add_to_rows.Given as goal

abbrev pub invariant-loop-place : goal.invariant-loop-place
invariant-loop-place l = RowsAdded (take l.place-index l.places) l.number l.fn.rows.items l.rows.items
