use Rattle.std.proofs.Common.{◌≡◌, ◌==◌, ◌+◌, length, IsTrue}
use Rattle.std.specs.List.{slice_split}
use Rattle.no_layout.specs.Stated.{left}
use Rattle.no_layout.specs.Text.{are_formed, layout_of}
use Rattle.no_layout.proofs.layout.Layout.read.Given as goal

abbrev pub invariant-loop-kind : goal.invariant-loop-kind
invariant-loop-kind l = record {
  place : l.at + length l.rest ≡ length l.text;
  left : left l.at l.draft (slice_split (λ c. c == 45) l.rest) ≡ layout_of l.text;
  formed : IsTrue (are_formed l.draft.pointer l.draft.pointer_align l.draft.int_align);
}

abbrev pub decreases-loop-kind : goal.decreases-loop-kind
decreases-loop-kind l = length l.rest
