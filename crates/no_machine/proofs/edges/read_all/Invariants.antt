use Rattle.std.proofs.Common.{◌≡◌, map, take}
use Rattle.no_machine.specs.Did.{read_move}
use Rattle.no_machine.proofs.edges.read_all.Given as goal

abbrev pub invariant-loop-one : goal.invariant-loop-one
invariant-loop-one l = l.scratch.items ≡ map (read_move l.window l.constants) (take l.one-index l.moves)
