use Rattle.std.proofs.Common.{refl}
use Rattle.no_print.specs.Scopes.{spelled_by}
use Rattle.no_print.specs.Modules.{each, function_pieces}
use Rattle.no_print.proofs.Lists.{list_step}
use Rattle.no_print.proofs.printing.put_functions.Goals as goal

pub loop-f-preserved : goal.loop-f-preserved
loop-f-preserved c =
    list_step (each (function_pieces (spelled_by c.args.scope.now))) (function_pieces (spelled_by c.args.scope.now)) (λ x xs. refl) _ _ _ c.args.functions.now c.loop-f.f-index c.f-item.result
    c.loop-f-test.true c.f-item.is c.loop-f.invariant c.in_ok-put_function.ensures
