use Rattle.std.proofs.Common.{◌∙◌, sym, subst, ◌<◌, ◌≡◌, List, length, get_or}
use Rattle.no_ir.specs.declared.function.Block.{Block}
use Rattle.no_verify_structure.specs.Phis.{block_phis}
use Rattle.no_verify_structure.proofs.Found.{is_found, is_passed}
use Rattle.no_verify_structure.proofs.phis.blocks_phis.Goals as goal

pub returns-in-Some : goal.returns-in-Some
returns-in-Some c =
    let lt = subst (λ (bs : List Block). c.loop-b.b < length bs) c.as_slice-block-items.ensures c.loop-b-test.true in
    let is = subst (λ (bs : List Block). c.block-item.result ≡ get_or bs c.loop-b.b c.block-item.result) c.as_slice-block-items.ensures c.block-item.is in
    is_found (block_phis c.args.function.now) c.args.function.now.blocks c.loop-b.b c.block-item.result c.in-Some.i lt is (sym c.in-Some.is ∙ c.in_ok-i.ensures) c.loop-b.invariant

pub loop-b-preserved : goal.loop-b-preserved
loop-b-preserved c =
    let lt = subst (λ (bs : List Block). c.loop-b.b < length bs) c.as_slice-block-items.ensures c.loop-b-test.true in
    let is = subst (λ (bs : List Block). c.block-item.result ≡ get_or bs c.loop-b.b c.block-item.result) c.as_slice-block-items.ensures c.block-item.is in
    is_passed (block_phis c.args.function.now) c.args.function.now.blocks c.loop-b.b c.block-item.result lt is (sym c.in_default.is ∙ c.in_ok-i.ensures) c.loop-b.invariant
