use Rattle.std.proofs.Common.{length, ◌≡◌, ◌++◌}
use Rattle.std.specs.List.{filter_map}
use Rattle.no_module.specs.Left.{labels_left}
use Rattle.no_verify_paths.specs.Survey.{at}
use Rattle.no_verify_paths.proofs.graph.resolve.Given as goal

abbrev pub invariant-loop-label : goal.invariant-loop-label
invariant-loop-label l = filter_map (at l.labels) (labels_left l.named) ≡ l.blocks.items ++ filter_map (at l.labels) (labels_left l.left)

abbrev pub decreases-loop-label : goal.decreases-loop-label
decreases-loop-label l = length (labels_left l.left)
