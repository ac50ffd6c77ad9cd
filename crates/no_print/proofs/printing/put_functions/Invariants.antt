use Rattle.std.proofs.Common.{◌≡◌, ◌++◌, drop}
use Rattle.no_print.specs.Scopes.{spelled_by}
use Rattle.no_print.specs.Modules.{each, function_pieces}
use Rattle.no_print.specs.Pieces.{written}
use Rattle.no_print.proofs.printing.put_functions.Given as goal

abbrev pub invariant-loop-f : goal.invariant-loop-f
invariant-loop-f l = l.fn.out.items ++ written (each (function_pieces (spelled_by l.scope)) l.functions) ≡ l.out.items ++ written (each (function_pieces (spelled_by l.scope)) (drop l.f-index l.functions))
