use Rattle.std.proofs.Common.{◌≡◌, ◌+◌, ◌≤◌, ℕ, List, length, ap, sym, subst, arith}
use Rattle.no_ir.specs.declared.function.Block.{Block}
use Rattle.no_code.proofs.Tables.{Begun, begun_more, begun_none, starts_begun}
use Rattle.no_code.proofs.blocks.starts.Goals as goal

pub loop-block-init : goal.loop-block-init
loop-block-init c =
    subst (λ (t : List ℕ). Begun c.as_slice-block-items.result.now c.args.base t c.args.base 0) (sym c.new-table.ensures) (begun_none c.as_slice-block-items.result.now c.args.base)

pub loop-block-preserved : goal.loop-block-preserved
loop-block-preserved c =
    let sum : c.in_ok-at.at ≡ c.loop-block.at + length c.block-item.result.instrs = omega (arith, c.in_ok-at.ensures.0, c.in_ok-count.ensures.0, c.len.ensures) in
    begun_more c.as_slice-block-items.result.now c.args.base c.loop-block.table c.push.new.self c.loop-block.at c.in_ok-at.at c.loop-block.block-index c.block-item.result c.loop-block-test.true c.block-item.is c.loop-block.invariant
    c.in_ok-push.ensures.ok sum

pub returns : goal.returns
returns c =
    let same = c.as_slice-block-items.ensures in
    let le : length c.args.g.now.blocks ≤ c.loop-block.block-index = omega (arith, ap length same, c.loop-block-test.false) in
    starts_begun c.args.g.now c.args.base c.loop-block.at c.loop-block.block-index c.loop-block.table le
    (subst (λ (bs : List Block). Begun bs c.args.base c.loop-block.table c.loop-block.at c.loop-block.block-index) same c.loop-block.invariant)
