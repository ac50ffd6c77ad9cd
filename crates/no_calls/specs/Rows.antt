-- Tables of lists of numbers.
use Rattle.std.specs.Prelude.{ℕ, ◌<◌, ◌⊎◌, ◌≡◌, List, [], length, slice_get, Option, Some, None, Vec}
use Rattle.std.specs.Global.{Global}
use Rattle.std.specs.List.{Contains}

-- the items of a row, none where there is no row
abbrev pub items_in : Option (Vec ℕ Global) → List ℕ
items_in None = []
items_in (Some row) = row.items

-- row j, empty where there is none
unfoldable pub row : List (Vec ℕ Global) → ℕ → List ℕ
row rows j = items_in (slice_get rows j)

-- each number in the rows is below n
abbrev pub AreBelow : List (Vec ℕ Global) → ℕ → Type 0
AreBelow rows n = (a s : ℕ) → Contains (row rows a) s → s < n

-- row s of the one table has a just where row a of the other has s
pub record IsReverse (rows back : List (Vec ℕ Global)) : Type 0 where
  pub there : (a s : ℕ) → Contains (row rows a) s → Contains (row back s) a
  pub back' : (a s : ℕ) → Contains (row back s) a → Contains (row rows a) s

-- to each of these rows the number a was added
pub record RowsAdded (places : List ℕ) (a : ℕ) (old new : List (Vec ℕ Global)) : Type 0 where
  pub kept : (s x : ℕ) → Contains (row old s) x → Contains (row new s) x
  pub only : (s x : ℕ) → Contains (row new s) x → Contains (row old s) x ⊎ (Contains places s × (x ≡ a))
  pub there : (s : ℕ) → Contains places s → Contains (row new s) a
  pub wide : length new ≡ length old
