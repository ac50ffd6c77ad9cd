use Rattle.std.proofs.Common.{◌≡◌, ◌∙◌, ℕ, List, Some, slice_get, ap, subst, sym}
use Rattle.no_code.specs.declared.code.Edge.{Edge}
use Rattle.no_code.specs.declared.code.Move.{Move}
use Rattle.no_machine.specs.Did.{IsReadyMove, moved}
use Rattle.no_machine.proofs.Moving.{edge_is, moves_are}
use Rattle.no_machine.proofs.edges.take.Goals as goal

pub move_all-requires : goal.move_all-requires
move_all-requires c =
    let a = c.args in
    let same = edge_is a.code.now.edges c.as_slice.result.now a.e c.requires.edge (record { target = 0; from = 0; to = 0 }) c.as_slice.ensures c.requires.is in
    record {
      ready = subst (λ (l : List Move). (k : ℕ) (v : Move) → slice_get l k ≡ Some v → IsReadyMove a.window.now a.constants.now v) (sym (moves_are a.code.now.moves c.as_slice-2.result.now _ c.requires.edge c.as_slice-2.ensures same)) c.requires.each;
    }

pub returns-then-move_all : goal.returns-then-move_all
returns-then-move_all c =
    let a = c.args in
    let same = edge_is a.code.now.edges c.as_slice.result.now a.e c.requires.edge (record { target = 0; from = 0; to = 0 }) c.as_slice.ensures c.requires.is in (
      c.requires.edge,
      c.requires.is,
      ap (λ (x : Edge). x.target) same,
      c.if-move_all.ensures ∙ ap (λ (l : List Move). moved l a.constants.now a.window.now) (moves_are a.code.now.moves c.as_slice-2.result.now _ c.requires.edge c.as_slice-2.ensures same),
    )
