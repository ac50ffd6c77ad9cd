use Rattle.std.proofs.Common.{◌≡◌, ◌++◌, drop}
use Rattle.no_print.specs.Scopes.{spelled_by}
use Rattle.no_print.specs.Modules.{each, named_pieces}
use Rattle.no_print.specs.Pieces.{written}
use Rattle.no_print.proofs.printing.put_all_named.Given as goal

abbrev pub invariant-loop-named : goal.invariant-loop-named
invariant-loop-named l = l.fn.out.items ++ written (each (named_pieces (spelled_by l.scope)) l.types) ≡ l.out.items ++ written (each (named_pieces (spelled_by l.scope)) (drop l.named-index l.types))
