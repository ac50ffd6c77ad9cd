-- Bytes by pages.
use Rattle.std.specs.Prelude.{ℕ, ◌/◌, ◌%◌, Bool, List, slice_index, get_or}
use Rattle.no_pages.specs.declared.slot.Slot.{Slot}
use Rattle.no_pages.specs.Slot.{is_held, is_own, list_of, nothing}

-- the byte at each address, by the lists of the pages
unfoldable pub paged : (ℕ → List ℕ) → ℕ → ℕ
paged pages a = slice_index (pages (a / 4096)) (a % 4096)

-- the list of each page
abbrev pub lists : List ℕ → List Slot → ℕ → List ℕ
lists zeros slots p = list_of zeros (get_or slots p nothing).bytes

-- whether each page is present
abbrev pub helds : List Slot → ℕ → Bool
helds slots p = is_held (get_or slots p nothing).bytes

-- whether each page has bytes of its own
abbrev pub owns : List Slot → ℕ → Bool
owns slots p = is_own (get_or slots p nothing).bytes

-- whether each page is marked as written
abbrev pub dirties : List Slot → ℕ → Bool
dirties slots p = (get_or slots p nothing).dirty
