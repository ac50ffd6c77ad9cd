use Rattle.std.proofs.Common.{◌∙◌, ap, arith, get_or, length, length-set, refl, subst, List, ℕ, false}
use Rattle.std.proofs.lemmas.List.{take_all}
use Rattle.no_filter.specs.Verdicts.{Cleared}
use Rattle.no_filter.proofs.Freed.{cleared_more, cleared_none}
use Rattle.no_filter.proofs.freeing.clear.Goals as goal

pub loop-k-init : goal.loop-k-init
loop-k-init c = record { wide = refl; cleared = cleared_none c.args.flags.now.items }

pub loop-k-preserved : goal.loop-k-preserved
loop-k-preserved c = record {
  wide = ap length c.clear_one.ensures ∙ (length-set c.loop-k.flags.items (get_or c.args.ks.now c.loop-k.k-index 0) false ∙ c.loop-k.invariant.wide);
  cleared = cleared_more c.args.ks.now c.loop-k.k-index c.args.flags.now.items c.loop-k.flags.items c.clear_one.new.flags.items (omega arith) c.clear_one.ensures c.loop-k.invariant.cleared;
}

pub returns-clause-cleared : goal.returns-clause-cleared
returns-clause-cleared c = subst (λ (l : List ℕ). Cleared l c.args.flags.now.items c.loop-k.flags.items) (take_all c.loop-k.k-index c.args.ks.now (omega arith)) c.loop-k.invariant.cleared
