use Rattle.std.proofs.Common.{◌≡◌, drop}
use Rattle.std.specs.List.{list_all}
use Rattle.no_verify_types.specs.Typing.{integer_fits}
use Rattle.no_verify_types.proofs.operands.integers_fit.Given as goal

abbrev pub invariant-loop-integer : goal.invariant-loop-integer
invariant-loop-integer l = list_all (integer_fits l.program l.role l.types) l.integers ≡ list_all (integer_fits l.program l.role l.types) (drop l.integer-index l.integers)
