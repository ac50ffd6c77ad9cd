use Rattle.std.proofs.Common.{drop, ◌≡◌}
use Rattle.std.specs.List.{list_all}
use Rattle.no_room.specs.Fits.{type_fits}
use Rattle.no_verify_structure.proofs.large.params_fit.Given as goal

abbrev pub invariant-loop-param : goal.invariant-loop-param
invariant-loop-param l = list_all (λ p. type_fits l.layout l.sizes p.1) l.params ≡ list_all (λ p. type_fits l.layout l.sizes p.1) (drop l.param-index l.params)
