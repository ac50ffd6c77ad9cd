use Rattle.std.proofs.Common.{take, ◌≡◌, ◌≤◌}
use Rattle.no_layout.specs.Memory.{globals_limit}
use Rattle.no_room.specs.Ends.{end_of}
use Rattle.no_room.proofs.ends.end_of_all.Given as goal

abbrev pub invariant-loop-global : goal.invariant-loop-global
invariant-loop-global l = record { value : l.end ≡ end_of l.layout l.sizes l.kind l.start (take l.global-index l.globals); low : l.end ≤ globals_limit }
