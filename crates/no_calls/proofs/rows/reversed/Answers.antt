use Rattle.std.proofs.Common.{◌<◌, ◌≡◌, ◌∙◌, List, ℕ, arith, subst, sym}
use Rattle.std.specs.List.{Contains}
use Rattle.no_calls.specs.Rows.{row}
use Rattle.no_calls.proofs.Tables.{row_is, turned_all, turned_more, turned_none}
use Rattle.no_calls.proofs.rows.reversed.Goals as goal

pub add_to_rows-requires : goal.add_to_rows-requires
add_to_rows-requires c = λ s h.
    let rows = c.args.rows.now in
    let a = c.loop-a.a in
    let row' : row rows a ≡ c.as_slice.result.now = row_is rows a c.index-rows-a.result (omega arith) c.index-rows-a.is ∙ sym c.as_slice.ensures.value in
    let below : s < c.args.count = c.requires.below a s (subst (λ (l : List ℕ). Contains l s) (sym row') h) in
    omega (arith, below, c.loop-a.invariant.wide)

pub loop-a-preserved : goal.loop-a-preserved
loop-a-preserved c = record {
  wide = omega (arith, c.in_ok-add_to_rows.ensures.wide, c.loop-a.invariant.wide, c.loop-a.back.ok.0, c.add_to_rows.new.rows.ok.0);
  turned = turned_more c.args.rows.now c.loop-a.back.items c.add_to_rows.new.rows.items c.loop-a.a c.index-rows-a.result c.as_slice.result.now (omega arith) c.index-rows-a.is c.as_slice.ensures.value c.loop-a.invariant.turned c.in_ok-add_to_rows.ensures;
}

pub returns-clause-reverse : goal.returns-clause-reverse
returns-clause-reverse c = turned_all c.args.rows.now c.loop-a.back.items c.loop-a.a (omega arith) c.loop-a.invariant.turned

pub loop-a-init : goal.loop-a-init
loop-a-init c = record { wide = c.in_ok-back.ensures.wide; turned = turned_none c.args.rows.now c.in_ok-back.back.items c.in_ok-back.ensures.empty }
