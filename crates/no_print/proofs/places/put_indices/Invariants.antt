use Rattle.std.proofs.Common.{◌≡◌, ◌++◌, drop}
use Rattle.no_print.specs.Constants.{index_pieces}
use Rattle.no_print.specs.Pieces.{behind_commas}
use Rattle.no_print.specs.Pieces.{written}
use Rattle.no_print.proofs.places.put_indices.Given as goal

abbrev pub invariant-loop-index : goal.invariant-loop-index
invariant-loop-index l = l.fn.out.items ++ written (behind_commas index_pieces l.indices) ≡ l.out.items ++ written (behind_commas index_pieces (drop l.index-index l.indices))
