use Rattle.std.proofs.Common.{◌≡◌, ◌++◌, drop}
use Rattle.no_print.specs.Scopes.{spelled_by}
use Rattle.no_print.specs.Modules.{locals_of}
use Rattle.no_print.specs.Instructions.{pair_pieces}
use Rattle.no_print.specs.Commas.{items_from}
use Rattle.no_print.specs.Pieces.{with_commas, spaced}
use Rattle.no_print.specs.Pieces.{written}
use Rattle.no_print.proofs.operands.put_pairs.Given as goal

abbrev pub invariant-loop-k : goal.invariant-loop-k
invariant-loop-k l = l.fn.out.items ++ written (with_commas (pair_pieces (spelled_by l.scope) (locals_of l.f) l.t) spaced l.pairs) ≡ l.out.items ++ written (items_from (pair_pieces (spelled_by l.scope) (locals_of l.f) l.t) spaced l.k (drop l.k l.pairs))
