use Rattle.std.proofs.Common.{length, ◌≡◌}
use Rattle.std.specs.List.{fold}
use Rattle.no_module.specs.Instructions.{exits_of}
use Rattle.no_module.specs.Left.{labels_left}
use Rattle.no_verify_structure.specs.Edges.{with_edge}
use Rattle.no_verify_structure.proofs.phis.put_exits.Given as goal

abbrev pub invariant-loop-label : goal.invariant-loop-label
invariant-loop-label l = fold (with_edge l.from) l.fn.table (exits_of l.op) ≡ fold (with_edge l.from) l.table (labels_left l.left)

abbrev pub decreases-loop-label : goal.decreases-loop-label
decreases-loop-label l = length (labels_left l.left)
