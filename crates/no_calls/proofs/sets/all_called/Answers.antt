use Rattle.std.proofs.Common.{arith, length, ℕ}
use Rattle.no_ir.specs.declared.function.Function.{Function}
use Rattle.no_calls.specs.Shapes.{called_sets}
use Rattle.no_calls.proofs.Shaping.{rows_next, rows_whole}
use Rattle.no_calls.proofs.sets.all_called.Goals as goal

pub loop-function-preserved : goal.loop-function-preserved
loop-function-preserved c = record {
  wide = omega (arith, c.in_ok-push.ensures.len, c.loop-function.invariant.wide);
  sets = rows_next (λ (k : ℕ) (g : Function). called_sets (length c.args.functions.now) c.args.shapes.now g) c.args.functions.now c.loop-function.rows.items c.push.new.self.items c.in_ok-called_sets.field-0 c.loop-function.function-index c.function-item.result
      (omega (arith, c.loop-function.invariant.wide, c.loop-function.rows.ok.0)) c.in_ok-push.ensures.items c.in_ok-called_sets.ensures (omega arith) c.function-item.is c.loop-function.invariant.sets;
}

pub returns-clause-sets : goal.returns-clause-sets
returns-clause-sets c = rows_whole (λ (k : ℕ) (g : Function). called_sets (length c.args.functions.now) c.args.shapes.now g) c.args.functions.now c.loop-function.rows.items c.loop-function.function-index (omega arith) c.loop-function.invariant.sets
