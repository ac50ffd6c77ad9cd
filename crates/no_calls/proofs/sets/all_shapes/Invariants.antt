use Rattle.std.proofs.Common.{◌≤◌, length}
use Rattle.no_calls.specs.Shapes.{HasShapes}
use Rattle.no_calls.proofs.sets.all_shapes.Given as goal

abbrev pub invariant-loop-k : goal.invariant-loop-k
invariant-loop-k l = record { shapes : HasShapes l.functions l.taken l.k l.shapes; few : length l.shapes ≤ l.k }
