use Rattle.std.proofs.Common.{refl}
use Rattle.no_print.specs.Scopes.{spelled_by}
use Rattle.no_print.specs.Modules.{each, named_pieces}
use Rattle.no_print.proofs.Lists.{list_step}
use Rattle.no_print.proofs.printing.put_all_named.Goals as goal

pub loop-named-preserved : goal.loop-named-preserved
loop-named-preserved c =
    list_step (each (named_pieces (spelled_by c.args.scope.now))) (named_pieces (spelled_by c.args.scope.now)) (λ x xs. refl) _ _ _ c.args.types.now c.loop-named.named-index c.named-item.result
    c.loop-named-test.true c.named-item.is c.loop-named.invariant c.in_ok-put_named.ensures
