-- What a table of pages means.
use Rattle.std.specs.Prelude.{◌≡◌, ℕ, Bool, true, false, List, Option, Some, None}
use Rattle.no_layout.specs.Memory.{access, read_number, write_number}
use Rattle.no_layout.specs.declared.memory.Regions.{Regions}
use Rattle.no_layout.specs.declared.memory.Access.TheVariants.{Done}
use Rattle.no_pages.specs.Pages.{dirties, helds, lists, owns, paged}
use Rattle.no_pages.specs.declared.table.PageTable.{PageTable}

-- where the regions of a table's memory end
abbrev pub regions_of : PageTable → Regions
regions_of t = t.regions

-- the byte at each address of a table's memory
abbrev pub byte_of : PageTable → ℕ → ℕ
byte_of t = paged (lists t.zeros.value t.slots.items)

-- whether each page of a table is present
abbrev pub held_of : PageTable → ℕ → Bool
held_of t = helds t.slots.items

-- whether each page of a table has bytes of its own
abbrev pub own_of : PageTable → ℕ → Bool
own_of t = owns t.slots.items

-- whether each page of a table is marked as written
abbrev pub dirty_of : PageTable → ℕ → Bool
dirty_of t = dirties t.slots.items

-- the quick way gives the number, or nothing
abbrev pub TriesLoad : Option ℕ → Regions → (ℕ → Bool) → (ℕ → ℕ) → Bool → ℕ → ℕ → Type 0
TriesLoad None r held byte big at n = Unit {0}
TriesLoad (Some v) r held byte big at n = (access r held false at n ≡ Done) × (v ≡ read_number big byte at n)

-- the quick way writes the number, or nothing
abbrev pub TriesStore : Bool → Regions → (ℕ → Bool) → (ℕ → ℕ) → (ℕ → ℕ) → Bool → ℕ → ℕ → ℕ → Type 0
TriesStore false r held old new big at n v = new ≡ old
TriesStore true r held old new big at n v = (access r held true at n ≡ Done) × (new ≡ write_number big old at n v)

-- the bytes of a page
abbrev pub list_at : PageTable → ℕ → List ℕ
list_at t = lists t.zeros.value t.slots.items
