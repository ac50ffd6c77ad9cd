use Rattle.std.proofs.Common.{◌/◌, ℕ, Vec, Global, arith, sym, subst, ◌∙◌}
use Rattle.std.proofs.lemmas.List.{get_or_default}
use Rattle.no_heap.specs.Index.{AreWidest}
use Rattle.no_heap.proofs.Indexed.{run_passed, tightened, come_start}
use Rattle.no_heap.proofs.gap.find_gap.Goals as goal
use Rattle.no_heap.proofs.gap.find_gap.Goals.{then-index-need+in-Err, else-index-need}

pub loop-from-preserved : goal.loop-from-preserved
loop-from-preserved c =
    let inv = c.loop-from.invariant in
    let bs = c.args.blocks.now in
    elim c.if-index-need.branch [
      | then-index-need+in-Err w ↦ record {
        even = omega (arith, inv.even);
        come = w.in-Err.ensures.come;
        widest = subst (λ (v : Vec ℕ Global). AreWidest bs v.items) (sym w.widest-is) (tightened bs c.loop-from.widest.items c.args.need c.loop-from.from w.in-Err.exact c.requires.live inv.widest inv.even c.loop-from-test.true w.in-Err.ensures);
      }
      | else-index-need w ↦ record {
        even = omega (arith, inv.even);
        come = run_passed bs c.loop-from.widest.items c.args.need c.loop-from.from c.requires.live inv.widest inv.even c.loop-from-test.true (come_start bs c.args.need c.loop-from.from c.loop-from-test.true inv.come) (omega (arith, w.if-index-need.false, c.index.ensures ∙ get_or_default c.loop-from.widest.items (c.loop-from.from / 256) c.index.result.now 0 (omega (arith, inv.widest.runs, c.loop-from-test.true, c.requires.live.few))));
        widest = subst (λ (v : Vec ℕ Global). AreWidest bs v.items) (sym w.widest-is) inv.widest;
      }
    ]
