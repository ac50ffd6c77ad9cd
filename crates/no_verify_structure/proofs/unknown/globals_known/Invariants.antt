use Rattle.std.proofs.Common.{drop, ◌≡◌}
use Rattle.std.specs.List.{list_all}
use Rattle.no_verify_structure.specs.Unknown.{global_known}
use Rattle.no_verify_structure.proofs.unknown.globals_known.Given as goal

abbrev pub invariant-loop-global : goal.invariant-loop-global
invariant-loop-global l = list_all (global_known l.program) l.program.globals ≡ list_all (global_known l.program) (drop l.global-index l.program.globals)
