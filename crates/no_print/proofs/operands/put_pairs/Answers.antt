use Rattle.no_print.specs.Pieces.{spaced}
use Rattle.no_print.specs.Scopes.{spelled_by}
use Rattle.no_print.specs.Modules.{locals_of}
use Rattle.no_print.specs.Instructions.{pair_pieces}
use Rattle.no_print.proofs.Lists.{items_end, items_step}
use Rattle.no_print.proofs.operands.put_pairs.Goals as goal

pub loop-k-preserved : goal.loop-k-preserved
loop-k-preserved c =
    items_step (pair_pieces (spelled_by c.args.scope.now) (locals_of c.args.f.now) c.args.t.now) spaced _ _ _ c.args.pairs.now c.loop-k.k c.index-pairs-k.result c.loop-k-test.true c.index-pairs-k.is c.loop-k.invariant c.in_ok-put_pair_at.ensures

pub returns : goal.returns
returns c = items_end (pair_pieces (spelled_by c.args.scope.now) (locals_of c.args.f.now) c.args.t.now) spaced _ _ _ c.args.pairs.now c.loop-k.k c.loop-k-test.false c.loop-k.invariant
