use Rattle.no_print.specs.Pieces.{glued}
use Rattle.no_print.specs.Scopes.{spelled_by}
use Rattle.no_print.specs.Modules.{param_pieces}
use Rattle.no_print.proofs.Lists.{items_end, items_step}
use Rattle.no_print.proofs.functions.put_params.Goals as goal

pub loop-k-preserved : goal.loop-k-preserved
loop-k-preserved c =
    items_step (param_pieces (spelled_by c.args.scope.now) c.args.f.now.registers) glued _ _ _ c.args.params.now c.loop-k.k c.index-params-k.result c.loop-k-test.true c.index-params-k.is c.loop-k.invariant c.in_ok-put_param.ensures

pub returns : goal.returns
returns c = items_end (param_pieces (spelled_by c.args.scope.now) c.args.f.now.registers) glued _ _ _ c.args.params.now c.loop-k.k c.loop-k-test.false c.loop-k.invariant
