use Rattle.std.proofs.Common.{◌≡◌, ◌∙◌, arith, sym}
use Rattle.no_calls.specs.Rows.{row}
use Rattle.no_calls.proofs.Tables.{row_is}
use Rattle.no_calls.proofs.Nearer.{near_all, near_more}
use Rattle.no_calls.proofs.nearest.nearest_all.Goals as goal

pub loop-row-preserved : goal.loop-row-preserved
loop-row-preserved c =
    let members = c.args.members.now in
    let i = c.loop-row.row-index in
    let row' : c.as_slice.result.now ≡ row members i = c.as_slice.ensures.value ∙ sym (row_is members i c.row-item.result (omega arith) c.row-item.is) in
    record {
      wide = omega (arith, c.in_ok-push.ensures.len, c.loop-row.invariant.wide);
      all = near_more members c.args.far.now c.loop-row.near.items c.push.new.self.items i c.nearest_of.result c.as_slice.result.now (omega (arith, c.loop-row.invariant.wide, c.loop-row.near.ok.0)) c.in_ok-push.ensures.items row' c.nearest_of.ensures c.loop-row.invariant.all;
    }

pub returns : goal.returns
returns c = near_all c.args.members.now c.args.far.now c.loop-row.near.items c.loop-row.row-index (omega arith) (omega (arith, c.loop-row.invariant.wide, c.loop-row.near.ok.0)) c.loop-row.invariant.all

pub loop-row-init : goal.loop-row-init
loop-row-init c = record { wide = omega (arith, c.new-near.ensures.len); all = λ s lt. absurd (omega arith) }
