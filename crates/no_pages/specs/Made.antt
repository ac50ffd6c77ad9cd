-- A table as it is made, and the list of its pages that were written.
use Rattle.std.specs.Prelude.{◌≡◌, ◌<◌, ℕ, zero, suc, Bool, false, if◌then◌else◌, List, [], ◌∷◌, ◌++◌, length, get_or}
use Rattle.no_layout.specs.declared.memory.Regions.{Regions}
use Rattle.no_pages.specs.Kinds.{IsKind}
use Rattle.no_pages.specs.Slot.{nothing}
use Rattle.no_pages.specs.declared.slot.Bytes.TheVariants.{Absent, Zeros}
use Rattle.no_pages.specs.declared.slot.Slot.{Slot}
use Rattle.no_pages.specs.declared.table.PageTable.{PageTable}

-- a page as it is made
pub record IsFresh (r : Regions) (present : Bool) (p : ℕ) (s : Slot) : Type 0 where
  pub kind : IsKind r p s.kind
  pub dirty : s.dirty ≡ false
  pub bytes : s.bytes ≡ (if present then Zeros else Absent)

-- n pages as they are made, all present or all absent
pub record AreFresh (r : Regions) (present : Bool) (n : ℕ) (slots : List Slot) : Type 0 where
  pub count : length slots ≡ n
  pub each : (p : ℕ) → p < n → IsFresh r present p (get_or slots p nothing)

-- a table as it is made for these regions: a page for each number up to the end of the stack
pub record IsMade (t : PageTable) (r : Regions) (present : Bool) : Type 0 where
  pub regions : t.regions ≡ r
  pub slots : AreFresh r present 131328 t.slots.items

-- the pages below n that are told, rising
unfoldable pub listed : (ℕ → Bool) → ℕ → List ℕ
listed told zero = []
listed told (suc n) = if told n then listed told n ++ n ∷ [] else listed told n
