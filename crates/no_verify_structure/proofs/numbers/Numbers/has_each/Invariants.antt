use Rattle.std.proofs.Common.{length, ◌≡◌}
use Rattle.std.specs.List.{list_all}
use Rattle.no_module.specs.Left.{labels_left}
use Rattle.no_verify_structure.specs.Names.{is_in}
use Rattle.no_verify_structure.proofs.numbers.Numbers.has_each.Given as goal

abbrev pub invariant-loop-label : goal.invariant-loop-label
invariant-loop-label l = list_all (is_in l.self) (labels_left l.labels) ≡ list_all (is_in l.self) (labels_left l.left)

abbrev pub decreases-loop-label : goal.decreases-loop-label
decreases-loop-label l = length (labels_left l.left)
