use Rattle.std.proofs.Common.{◌≡◌, drop}
use Rattle.std.specs.List.{list_all}
use Rattle.no_module.specs.Scalars.{is_scalar}
use Rattle.no_verify_types.proofs.typing.are_scalars.Given as goal

abbrev pub invariant-loop-param : goal.invariant-loop-param
invariant-loop-param l = list_all (λ p. is_scalar p.1) l.params ≡ list_all (λ p. is_scalar p.1) (drop l.param-index l.params)
