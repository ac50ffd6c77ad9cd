use Rattle.std.proofs.Common.{◌≡◌, ◌<◌, ℕ, false, length, vec_len}
use Rattle.std.specs.Prelude.{Some, slice_get, slice_index_or}
use Rattle.no_ir.specs.declared.function.Function.{Function}
use Rattle.no_calls.specs.Rows.{row}
use Rattle.no_calls.specs.Shapes.{sets_of}
use Rattle.no_calls.proofs.sets.all_within.Given as goal

abbrev pub invariant-loop-k : goal.invariant-loop-k
invariant-loop-k l = record {
  wide : vec_len l.rows ≡ l.k;
  sets : (k : ℕ) (g : Function) → k < l.k → slice_get l.functions k ≡ Some g → row l.rows.items k ≡ sets_of (length l.functions) l.shapes (slice_index_or l.taken k false) k g;
}
