use Rattle.no_print.specs.Pieces.{glued}
use Rattle.no_print.specs.Scopes.{spelled_by}
use Rattle.no_print.specs.Modules.{locals_of}
use Rattle.no_print.specs.Instructions.{argument_pieces}
use Rattle.no_print.proofs.Lists.{items_end, items_step}
use Rattle.no_print.proofs.operands.put_arguments.Goals as goal

pub loop-k-preserved : goal.loop-k-preserved
loop-k-preserved c =
    items_step (argument_pieces (spelled_by c.args.scope.now) (locals_of c.args.f.now)) glued _ _ _ c.args.arguments.now c.loop-k.k c.index-arguments-k.result c.loop-k-test.true c.index-arguments-k.is c.loop-k.invariant c.in_ok-put_argument.ensures

pub returns : goal.returns
returns c = items_end (argument_pieces (spelled_by c.args.scope.now) (locals_of c.args.f.now)) glued _ _ _ c.args.arguments.now c.loop-k.k c.loop-k-test.false c.loop-k.invariant
