use Rattle.std.proofs.Common.{◌≡◌, ◌++◌, drop}
use Rattle.no_print.specs.Scopes.{spelled_by}
use Rattle.no_print.specs.Modules.{blocks_pieces, locals_of}
use Rattle.no_print.specs.Pieces.{written}
use Rattle.no_print.proofs.functions.put_blocks.Given as goal

abbrev pub invariant-loop-b : goal.invariant-loop-b
invariant-loop-b l = l.fn.out.items ++ written (blocks_pieces (spelled_by l.scope) (locals_of l.f) l.blocks) ≡ l.out.items ++ written (blocks_pieces (spelled_by l.scope) (locals_of l.f) (drop l.b-index l.blocks))
