-- The names of a module.
use Rattle.std.specs.Prelude.{ℕ, List, []}
use Rattle.std.specs.List.{fold}
use Rattle.no_ir.specs.Naming.{with_name}

-- each name once, in the order of first appearance
abbrev pub names_once : List (List ℕ) → List (List ℕ)
names_once names = fold with_name [] names
