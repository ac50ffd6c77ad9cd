use Rattle.no_print.specs.Pieces.{glued}
use Rattle.no_print.specs.Scopes.{spelled_by}
use Rattle.no_print.specs.Modules.{type_alone}
use Rattle.no_print.proofs.Lists.{items_end, items_step}
use Rattle.no_print.proofs.functions.put_declared_params.Goals as goal

pub loop-k-preserved : goal.loop-k-preserved
loop-k-preserved c =
    items_step (type_alone (spelled_by c.args.scope.now)) glued _ _ _ c.args.params.now c.loop-k.k c.index-params-k.result c.loop-k-test.true c.index-params-k.is c.loop-k.invariant c.in_ok-put_declared_param.ensures

pub returns : goal.returns
returns c = items_end (type_alone (spelled_by c.args.scope.now)) glued _ _ _ c.args.params.now c.loop-k.k c.loop-k-test.false c.loop-k.invariant
