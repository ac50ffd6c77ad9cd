-- Tables by number that are written entry by entry.
use Rattle.std.specs.Prelude.{ℕ, Bool, true, List, [], ◌∷◌, set, Option}
use Rattle.no_module.specs.declared.scalar.Scalar.{Scalar}

-- types by number once these are written, so that of two for one number the first counts; a number past the end has no entry
abbrev pub overwritten : List (Option Scalar) → List (ℕ × Option Scalar) → List (Option Scalar)
overwritten types [] = types
overwritten types (d ∷ more) = set (overwritten types more) d.0 d.1

-- marks by number once these numbers are marked
abbrev pub marked : List Bool → List ℕ → List Bool
marked marks [] = marks
marked marks (k ∷ more) = marked (set marks k true) more
