-- Lists of arguments of the wrong length, of which no external makes anything.
use Rattle.std.specs.Prelude.{◌≡◌, ℕ, List}
use Rattle.no_semantics.specs.Externals.{World, Effect, Stuck, still, with_none, with_one, with_two, with_four}

-- there are arguments, where an external takes none
abbrev pub AreNotNone : List ℕ → Type 0
AreNotNone args = (f : World → Effect) (w : World) → with_none args f w ≡ still Stuck w

-- there is not just one argument, where an external takes one
abbrev pub AreNotOne : List ℕ → Type 0
AreNotOne args = (f : ℕ → World → Effect) (w : World) → with_one args f w ≡ still Stuck w

-- there are not just two arguments, where an external takes two
abbrev pub AreNotTwo : List ℕ → Type 0
AreNotTwo args = (f : ℕ → ℕ → World → Effect) (w : World) → with_two args f w ≡ still Stuck w

-- there are not just four arguments, where an external takes four
abbrev pub AreNotFour : List ℕ → Type 0
AreNotFour args = (f : ℕ → ℕ → ℕ → World → Effect) (w : World) → with_four args f w ≡ still Stuck w
