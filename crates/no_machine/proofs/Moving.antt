-- Moves of an edge.
use Rattle.std.proofs.Common.{◌≡◌, ℕ, ◌<◌, List, length, get_or, slice_get, slice_range, Some, ap, ◌∙◌}
use Rattle.std.proofs.lemmas.Option.{get_or_from_slice_get, slice_get-get_or}
use Rattle.no_code.specs.declared.code.Edge.{Edge}
use Rattle.no_code.specs.declared.code.Move.{Move}
use Rattle.no_machine.specs.Did.{IsReadyMove}

pub ready_at : (window constants : List ℕ) (moves : List Move) (k : ℕ) (d : Move) → ((k : ℕ) (v : Move) → slice_get moves k ≡ Some v → IsReadyMove window constants v) → k < length moves → IsReadyMove window constants (get_or moves k d)
ready_at window constants moves k d all lt = all k (get_or moves k d) (slice_get-get_or moves k d lt)

-- the edge as a list's element
pub edge_is : (edges es : List Edge) (e : ℕ) (edge d : Edge) → es ≡ edges → slice_get edges e ≡ Some edge → get_or es e d ≡ edge
edge_is edges es e edge d same is = ap (λ (l : List Edge). get_or l e d) same ∙ get_or_from_slice_get edges e edge d is

pub moves_are : (moves ms : List Move) (from edge : Edge) → ms ≡ moves → from ≡ edge → slice_range ms from.from from.to ≡ slice_range moves edge.from edge.to
moves_are moves ms from edge same is = ap (λ (l : List Move). slice_range l from.from from.to) same ∙ ap (λ (x : Edge). slice_range moves x.from x.to) is
