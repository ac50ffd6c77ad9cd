use Rattle.std.proofs.Common.{ℕ, List}
use Rattle.no_print.specs.Pieces.{glued}
use Rattle.no_print.specs.Scopes.{spelled_by}
use Rattle.no_print.specs.Modules.{locals_of}
use Rattle.no_print.specs.Instructions.{argument_pieces}
use Rattle.no_print.proofs.Fields.{item_at}
use Rattle.no_print.proofs.operands.put_argument.Goals as goal

pub returns : goal.returns
returns c = item_at (λ (g : List ℕ). argument_pieces (spelled_by c.args.scope.now) (locals_of c.args.f.now) g c.args.argument.now) c.args.k glued _ _ _ _ c.gap_at.ensures c.in_ok-put_break.ensures c.in_ok-put_typed.ensures
