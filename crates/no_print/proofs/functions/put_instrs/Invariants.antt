use Rattle.std.proofs.Common.{◌≡◌, ◌++◌, drop}
use Rattle.no_print.specs.Scopes.{spelled_by}
use Rattle.no_print.specs.Modules.{instrs_pieces, locals_of}
use Rattle.no_print.specs.Pieces.{written}
use Rattle.no_print.proofs.functions.put_instrs.Given as goal

abbrev pub invariant-loop-i : goal.invariant-loop-i
invariant-loop-i l = l.fn.out.items ++ written (instrs_pieces (spelled_by l.scope) (locals_of l.f) l.instrs) ≡ l.out.items ++ written (instrs_pieces (spelled_by l.scope) (locals_of l.f) (drop l.i-index l.instrs))
