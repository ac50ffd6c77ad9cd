use Rattle.std.proofs.Common.{drop, ◌≡◌}
use Rattle.std.specs.List.{list_all}
use Rattle.no_verify_structure.specs.Large.{global_fits}
use Rattle.no_verify_structure.proofs.large.globals_fit.Given as goal

abbrev pub invariant-loop-global : goal.invariant-loop-global
invariant-loop-global l = list_all (global_fits l.layout l.sizes) l.globals ≡ list_all (global_fits l.layout l.sizes) (drop l.global-index l.globals)
