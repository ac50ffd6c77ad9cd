use Rattle.std.proofs.Common.{◌∙◌, List, Vec, arith, ap, ℕ}
use Rattle.std.specs.Global.{Global}
use Rattle.no_calls.specs.Rows.{row}
use Rattle.no_calls.proofs.Tables.{row_none, row_pushed}
use Rattle.no_calls.proofs.rows.empty_rows.Goals as goal

pub loop-init : goal.loop-init
loop-init c = record { wide = omega (arith, c.new-rows.ensures.len); empty = λ s. ap (λ (rows : List (Vec ℕ Global)). row rows s) c.new-rows.ensures.items ∙ row_none s }

pub loop-preserved : goal.loop-preserved
loop-preserved c = record {
  wide = omega (arith, c.in_ok-push.ensures.len, c.loop.invariant.wide);
  empty = λ s. ap (λ (rows : List (Vec ℕ Global)). row rows s) c.in_ok-push.ensures.items ∙ (row_pushed c.loop.rows.items c.new.result s c.new.ensures.items ∙ c.loop.invariant.empty s);
}
