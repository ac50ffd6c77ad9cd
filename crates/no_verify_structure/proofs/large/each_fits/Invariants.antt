use Rattle.std.proofs.Common.{length, ◌≡◌}
use Rattle.std.specs.List.{list_all}
use Rattle.no_module.specs.Left.{types_left}
use Rattle.no_room.specs.Fits.{type_fits}
use Rattle.no_verify_structure.proofs.large.each_fits.Given as goal

abbrev pub invariant-loop-ty : goal.invariant-loop-ty
invariant-loop-ty l = list_all (type_fits l.layout l.sizes) (types_left l.types) ≡ list_all (type_fits l.layout l.sizes) (types_left l.left)

abbrev pub decreases-loop-ty : goal.decreases-loop-ty
decreases-loop-ty l = length (types_left l.left)
