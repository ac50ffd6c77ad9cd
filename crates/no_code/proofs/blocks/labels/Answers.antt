use Rattle.std.proofs.Common.{◌≡◌, ◌+◌, ◌-◌, ◌∙◌, ℕ, Some, None, List, length, replicate, get_or, slice_set, ap, subst, arith}
use Rattle.no_ir.specs.declared.function.Block.{Block}
use Rattle.no_code.proofs.Tables.{Noted, labels_noted, noted_more, noted_none}
use Rattle.no_code.proofs.blocks.labels.Goals as goal

pub loop-k-init : goal.loop-k-init
loop-k-init c =
    let count : c.len.result ≡ length c.args.g.now.labels = c.len.ensures in
    record {
      same = c.as_slice-blocks.ensures;
      noted = noted_none (length c.args.g.now.labels) c.as_slice-blocks.result.now c.in_ok-table.table (c.in_ok-table.ensures ∙ ap (λ (n : ℕ). replicate n None) count);
    }

pub loop-k-preserved : goal.loop-k-preserved
loop-k-preserved c =
    let k = c.loop-k.k in
    let blocks = c.as_slice-blocks.result.now in
    let at : k ≡ k - 1 + 1 = omega (arith, c.loop-k-test.true) in
    let label = (get_or blocks (k - 1) c.index-blocks-k.result).label in
    record {
      same = c.loop-k.invariant.same;
      noted = noted_more (length c.args.g.now.labels) blocks c.loop-k.table c.note.new.table k (k - 1) c.index-blocks-k.result at c.loop-k.invariant.noted
          (λ lt. c.note.ensures.noted lt ∙ ap (λ (n : ℕ). slice_set c.loop-k.table label (Some n)) c.in_ok-number.ensures.0) c.note.ensures.other;
    }

pub returns : goal.returns
returns c =
    labels_noted c.args.g.now c.loop-k.table c.loop-k.k c.loop-k-test.false
    (subst (λ (bs : List Block). Noted (length c.args.g.now.labels) bs c.loop-k.table c.loop-k.k) c.loop-k.invariant.same c.loop-k.invariant.noted)
