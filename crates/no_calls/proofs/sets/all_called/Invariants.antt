use Rattle.std.proofs.Common.{◌≡◌, ◌<◌, ℕ, length, vec_len}
use Rattle.std.specs.Prelude.{Some, slice_get}
use Rattle.no_ir.specs.declared.function.Function.{Function}
use Rattle.no_calls.specs.Rows.{row}
use Rattle.no_calls.specs.Shapes.{called_sets}
use Rattle.no_calls.proofs.sets.all_called.Given as goal

abbrev pub invariant-loop-function : goal.invariant-loop-function
invariant-loop-function l = record {
  wide : vec_len l.rows ≡ l.function-index;
  sets : (k : ℕ) (g : Function) → k < l.function-index → slice_get l.functions k ≡ Some g → row l.rows.items k ≡ called_sets (length l.functions) l.shapes g;
}
