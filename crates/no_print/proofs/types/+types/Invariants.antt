use Rattle.std.proofs.Common.{◌≡◌, ◌++◌, List, ℕ, drop, map}
use Rattle.no_print.specs.Commas.{items_from}
use Rattle.no_print.specs.Pieces.{Piece, spaced, written}
use Rattle.no_print.specs.Scopes.{spelled_by}
use Rattle.no_print.specs.Types.{fields_with, type_pieces}
use Rattle.no_print.proofs.types.+types.Given as goal

abbrev pub invariant-put_all_fields-loop-k : goal.invariant-put_all_fields-loop-k
invariant-put_all_fields-loop-k l =
    l.fn.out.items ++ written (fields_with (map (type_pieces (spelled_by l.scope).named) l.fields))
    ≡ l.out.items ++ written (items_from (λ (gap : List ℕ) (field : List ℕ → List Piece). field gap) spaced l.k (map (type_pieces (spelled_by l.scope).named) (drop l.k l.fields)))
