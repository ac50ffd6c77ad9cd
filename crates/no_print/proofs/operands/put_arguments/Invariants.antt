use Rattle.std.proofs.Common.{◌≡◌, ◌++◌, drop}
use Rattle.no_print.specs.Scopes.{spelled_by}
use Rattle.no_print.specs.Modules.{locals_of}
use Rattle.no_print.specs.Instructions.{argument_pieces}
use Rattle.no_print.specs.Commas.{items_from}
use Rattle.no_print.specs.Pieces.{with_commas, glued}
use Rattle.no_print.specs.Pieces.{written}
use Rattle.no_print.proofs.operands.put_arguments.Given as goal

abbrev pub invariant-loop-k : goal.invariant-loop-k
invariant-loop-k l = l.fn.out.items ++ written (with_commas (argument_pieces (spelled_by l.scope) (locals_of l.f)) glued l.arguments) ≡ l.out.items ++ written (items_from (argument_pieces (spelled_by l.scope) (locals_of l.f)) glued l.k (drop l.k l.arguments))
