use Rattle.std.proofs.Common.{◌∙◌, ap, arith, length, ℕ, Bool, false}
use Rattle.std.specs.Prelude.{slice_index_or}
use Rattle.no_ir.specs.declared.function.Function.{Function}
use Rattle.no_calls.specs.Shapes.{sets_of}
use Rattle.no_calls.proofs.Shaping.{rows_next, rows_whole}
use Rattle.no_calls.proofs.sets.all_within.Goals as goal

pub loop-k-preserved : goal.loop-k-preserved
loop-k-preserved c = record {
  wide = omega (arith, c.in_ok-push.ensures.len, c.loop-k.invariant.wide);
  sets = rows_next (λ (k : ℕ) (g : Function). sets_of (length c.args.functions.now) c.args.shapes.now (slice_index_or c.args.taken.now k false) k g) c.args.functions.now c.loop-k.rows.items c.push.new.self.items c.in_ok-sets.sets c.loop-k.k c.index-functions-k.result
      (omega (arith, c.loop-k.invariant.wide, c.loop-k.rows.ok.0)) c.in_ok-push.ensures.items
      (c.in_ok-sets.ensures ∙ ap (λ (b : Bool). sets_of (length c.args.functions.now) c.args.shapes.now b c.loop-k.k c.index-functions-k.result) c.flag.ensures) (omega arith) c.index-functions-k.is c.loop-k.invariant.sets;
}

pub returns-clause-sets : goal.returns-clause-sets
returns-clause-sets c =
    rows_whole (λ (k : ℕ) (g : Function). sets_of (length c.args.functions.now) c.args.shapes.now (slice_index_or c.args.taken.now k false) k g) c.args.functions.now c.loop-k.rows.items c.loop-k.k (omega arith) c.loop-k.invariant.sets
