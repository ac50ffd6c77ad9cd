use Rattle.std.proofs.Common.{◌≡◌, take, map}
use Rattle.no_read_types.specs.Lifted.{renumbered, number_in}
use Rattle.no_read_types.proofs.lifted.+renumbered.Given as goal

abbrev pub invariant-renumbered_all-loop-ty : goal.invariant-renumbered_all-loop-ty
invariant-renumbered_all-loop-ty l = l.all ≡ map (renumbered (number_in l.numbers)) (take l.ty-index l.types)
