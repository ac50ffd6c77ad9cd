-- What the kind of a page tells.
use Rattle.std.specs.Prelude.{◌≡◌, ℕ, ◌*◌, true, List, get_or}
use Rattle.no_layout.specs.Memory.{in_constants, in_written}
use Rattle.no_layout.specs.declared.memory.Regions.{Regions}
use Rattle.no_pages.specs.declared.slot.Kind.{Kind}
use Rattle.no_pages.specs.declared.slot.Kind.TheVariants.{Constant, Writable}
use Rattle.no_pages.specs.declared.slot.Slot.{Slot}
use Rattle.no_pages.specs.Slot.{nothing}

-- all bytes of the page lie in one region of that kind
pub record IsKind (r : Regions) (p : ℕ) (kind : Kind) : Type 0 where
  pub constant : kind ≡ Constant → in_constants r (4096 * p) 4096 ≡ true
  pub writable : kind ≡ Writable → in_written r (4096 * p) 4096 ≡ true

-- each page of a table lies in what its kind tells
pub record AreKinds (r : Regions) (slots : List Slot) : Type 0 where
  pub each : (p : ℕ) → IsKind r p (get_or slots p nothing).kind
