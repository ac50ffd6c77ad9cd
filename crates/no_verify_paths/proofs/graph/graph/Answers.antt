use Rattle.std.proofs.Common.{◌≡◌, ◌<◌, ◌++◌, ◌∷◌, [], List, length, get_or, below_more, arith, sym, ap, ◌∙◌, subst}
use Rattle.no_ir.specs.declared.function.Block.{Block}
use Rattle.no_verify_paths.specs.Paths.{code_of, successors}
use Rattle.no_verify_paths.specs.Flow.{row}
use Rattle.no_verify_paths.proofs.RowLaws.{row_kept, row_last}
use Rattle.no_verify_paths.proofs.Noting.{code_is, successors_is}
use Rattle.no_verify_paths.proofs.graph.graph.Goals as goal

pub loop-block-preserved : goal.loop-block-preserved
loop-block-preserved c =
    let f = c.args.function.now in
    let rows = c.loop-block.next.items in
    let n = c.loop-block.block-index in
    let v = c.in_ok-successors_of.field-0 in
    let block = c.block-item.result in
    let blocks : c.as_slice-block-items.result.now ≡ f.blocks = c.as_slice-block-items.ensures in
    let size : length rows ≡ n = omega (arith, c.loop-block.next.ok.0, c.loop-block.invariant.width) in
    let code : code_of f n ≡ c.as_slice.result.now = code_is f n block (subst (λ (bs : List Block). n < length bs) blocks (omega arith)) (c.block-item.is ∙ ap (λ (bs : List Block). get_or bs n block) blocks) ∙ sym c.as_slice.ensures in
    record {
      width = omega (arith, c.in_ok-push.ensures.len, c.loop-block.invariant.width);
      edges = rw c.in_ok-push.ensures.items (below_more (λ a. row (rows ++ v ∷ []) a ≡ successors f a) n (λ a lt. row_kept rows v a (omega arith) ∙ c.loop-block.invariant.edges a lt) (subst (λ k. row (rows ++ v ∷ []) k ≡ successors f n) size (row_last rows v ∙ (c.in_ok-successors_of.ensures ∙ successors_is f c.args.labels.now n c.as_slice.result.now c.requires code))));
    }
