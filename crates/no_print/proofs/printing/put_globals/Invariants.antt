use Rattle.std.proofs.Common.{◌≡◌, ◌++◌, drop}
use Rattle.no_print.specs.Scopes.{spelled_by}
use Rattle.no_print.specs.Modules.{each, global_pieces}
use Rattle.no_print.specs.Pieces.{written}
use Rattle.no_print.proofs.printing.put_globals.Given as goal

abbrev pub invariant-loop-g : goal.invariant-loop-g
invariant-loop-g l = l.fn.out.items ++ written (each (global_pieces (spelled_by l.scope)) l.globals) ≡ l.out.items ++ written (each (global_pieces (spelled_by l.scope)) (drop l.g-index l.globals))
