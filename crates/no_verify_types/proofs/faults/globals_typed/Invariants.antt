use Rattle.std.proofs.Common.{◌≡◌, drop}
use Rattle.std.specs.List.{list_all}
use Rattle.no_verify_types.specs.Constants.{global_typed}
use Rattle.no_verify_types.proofs.faults.globals_typed.Given as goal

abbrev pub invariant-loop-global : goal.invariant-loop-global
invariant-loop-global l = list_all (global_typed l.program l.role) l.globals ≡ list_all (global_typed l.program l.role) (drop l.global-index l.globals)
