use Rattle.std.proofs.Common.{◌≡◌, ◌++◌, List, ℕ, drop, map}
use Rattle.no_ir.specs.declared.types.Ty.{Ty}
use Rattle.no_print.specs.Commas.{items_from}
use Rattle.no_print.specs.Constants.{const_pieces, member, typed}
use Rattle.no_print.specs.Pieces.{Piece, glued, spaced, with_commas, written}
use Rattle.no_print.specs.Scopes.{spelled_by}
use Rattle.no_print.proofs.constants.+constants.Given as goal

abbrev pub invariant-put_elements-loop-k : goal.invariant-put_elements-loop-k
invariant-put_elements-loop-k l =
    l.fn.out.items ++ written (with_commas (λ (gap : List ℕ) (c : Ty → List ℕ → List Piece). member (spelled_by l.scope) gap l.t c) glued (map (const_pieces (spelled_by l.scope)) l.elements))
    ≡ l.out.items ++ written (items_from (λ (gap : List ℕ) (c : Ty → List ℕ → List Piece). member (spelled_by l.scope) gap l.t c) glued l.k (map (const_pieces (spelled_by l.scope)) (drop l.k l.elements)))

abbrev pub invariant-put_all_fields-loop-k : goal.invariant-put_all_fields-loop-k
invariant-put_all_fields-loop-k l =
    l.fn.out.items ++ written (with_commas (λ (gap : List ℕ) (field : List ℕ → List Piece). field gap) spaced (typed (spelled_by l.scope) (map (const_pieces (spelled_by l.scope)) l.fields) l.types))
    ≡ l.out.items ++ written (items_from (λ (gap : List ℕ) (field : List ℕ → List Piece). field gap) spaced l.k (typed (spelled_by l.scope) (map (const_pieces (spelled_by l.scope)) (drop l.k l.fields)) l.rest))
