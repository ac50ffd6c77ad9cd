-- Tables that only grow.
use Rattle.std.specs.Prelude.{ℕ, ◌≡◌, ◌++◌, List}
use Rattle.no_code.specs.declared.code.Code.{Code}

-- one list is another with more behind it
abbrev pub Extends : {A : Type 0} → List A → List A → Type 0
Extends {A = A} xs ys = (more : List A) × (ys ≡ xs ++ more)

-- code whose tables are those of another with more behind them
pub record Longer (a b : Code) : Type 0 where
  pub cells : Extends a.cells b.cells
  pub places : Extends a.places b.places
  pub homes : Extends a.homes b.homes
  pub constants : Extends a.constants b.constants
  pub edges : Extends a.edges b.edges
  pub moves : Extends a.moves b.moves
  pub arguments : Extends a.arguments b.arguments
  pub steps : Extends a.steps b.steps
  pub cases : Extends a.cases b.cases

-- code with more constants, and nothing else
abbrev pub Adds : Code → Code → Type 0
Adds a b = (more : List ℕ) × (b ≡ record a { constants = a.constants ++ more })
