use Rattle.std.proofs.Common.{ℕ, ◌+◌, arith, sym, subst}
use Rattle.no_heap.proofs.Indexed.{found_here, end_more, passing_more, passing_all, Passing}
use Rattle.no_heap.proofs.run.scan.Goals as goal

pub returns-then-gap-need : goal.returns-then-gap-need
returns-then-gap-need c =
    found_here c.args.blocks.now c.args.need c.loop-index.at c.loop-index.index c.requires.live c.requires.some (omega (arith, c.loop-index-test.true, c.min-end.ensures))
    c.loop-index.invariant.1.come c.loop-index.invariant.0 (omega (arith, c.if-gap-need.true))

pub loop-index-preserved : goal.loop-index-preserved
loop-index-preserved c = (
  sym (end_more c.args.blocks.now c.loop-index.index),
  subst (λ (k : ℕ). Passing c.args.blocks.now c.args.need c.args.from (c.loop-index.index + 1) k) (sym c.larger-widest.ensures)
      (passing_more c.args.blocks.now c.args.need c.args.from c.loop-index.index c.loop-index.widest c.loop-index.at c.requires.live (omega (arith, c.loop-index-test.true, c.min-end.ensures))
      c.loop-index.invariant.1 c.loop-index.invariant.0 (omega (arith, c.if-gap-need.false))),
)

pub returns : goal.returns
returns c = passing_all c.args.blocks.now c.args.need c.args.from c.loop-index.index c.loop-index.widest c.loop-index.invariant.1
    (omega (arith, c.loop-index-test.false, c.min-end.ensures, c.loop-index.auto.index-end (omega (arith, c.min-end.ensures, c.requires.within))))
