-- Of numbers that were found, the one that is nearest, and of several the least.
use Rattle.std.specs.Prelude.{◌≡◌, ℕ, ◌<◌, ◌≤◌, ◌⊎◌, List, slice_index_or, Option, Some, None, Vec}
use Rattle.std.specs.Global.{Global}
use Rattle.std.specs.List.{Contains}
use Rattle.no_calls.specs.Rows.{row}
use Rattle.no_calls.specs.Spreading.{at}

-- a distance with a number does not come after another: it is nearer, or as near and no greater
abbrev pub IsNotAfter : ℕ × ℕ → ℕ × ℕ → Type 0
IsNotAfter x y = (x.0 < y.0) ⊎ ((x.0 ≡ y.0) × (x.1 ≤ y.1))

-- a distance with a number does not come after another, and there is one wherever there is another
abbrev pub Comes : Option (ℕ × ℕ) → Option (ℕ × ℕ) → Type 0
Comes x None = Unit {0}
Comes None (Some y) = ⊥
Comes (Some x) (Some y) = IsNotAfter x y

-- the first of the numbers of which P holds, with its distance; none where none of them was found
abbrev pub IsNearest : (ℕ → Type 0) → List (Option ℕ) → Option (ℕ × ℕ) → Type 0
IsNearest P far None = (k d : ℕ) → P k → at far k ≡ Some d → ⊥
IsNearest P far (Some x) = P x.1 × (at far x.1 ≡ Some x.0) × ((k d : ℕ) → P k → at far k ≡ Some d → IsNotAfter x (d, k))

-- what a table has for a set
abbrev pub near_at : List (Option (ℕ × ℕ)) → ℕ → Option (ℕ × ℕ)
near_at near s = slice_index_or near s None

-- the nearest member of each set
abbrev pub AreNearest : List (Vec ℕ Global) → List (Option ℕ) → List (Option (ℕ × ℕ)) → Type 0
AreNearest members far near = (s : ℕ) → IsNearest (Contains (row members s)) far (near_at near s)
