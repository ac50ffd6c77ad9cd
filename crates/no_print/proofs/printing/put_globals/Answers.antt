use Rattle.std.proofs.Common.{refl}
use Rattle.no_print.specs.Scopes.{spelled_by}
use Rattle.no_print.specs.Modules.{each, global_pieces}
use Rattle.no_print.proofs.Lists.{list_step}
use Rattle.no_print.proofs.printing.put_globals.Goals as goal

pub loop-g-preserved : goal.loop-g-preserved
loop-g-preserved c =
    list_step (each (global_pieces (spelled_by c.args.scope.now))) (global_pieces (spelled_by c.args.scope.now)) (λ x xs. refl) _ _ _ c.args.globals.now c.loop-g.g-index c.g-item.result
    c.loop-g-test.true c.g-item.is c.loop-g.invariant c.in_ok-put_global_line.ensures
