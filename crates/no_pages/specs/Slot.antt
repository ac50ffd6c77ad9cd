-- A page of the table: its bytes, and what one access inside it does.
use Rattle.std.specs.Prelude.{◌≡◌, ◌≢◌, ℕ, Bool, true, false, List, [], length, take, drop, Option, Some, None}
use Rattle.no_layout.specs.Memory.{splice}
use Rattle.no_layout.specs.Orders.{number_of}
use Rattle.no_pages.specs.declared.slot.Kind.TheVariants.{Writable, Mixed}
use Rattle.no_pages.specs.declared.slot.Bytes.{Bytes}
use Rattle.no_pages.specs.declared.slot.Bytes.TheVariants.{Absent, Zeros, Own}
use Rattle.no_pages.specs.declared.slot.Slot.{Slot}

-- a page is present
abbrev pub is_held : Bytes → Bool
is_held Absent = false
is_held Zeros = true
is_held (Own b) = true

-- a page has bytes of its own, and doesn't share the zeros
abbrev pub is_own : Bytes → Bool
is_own Absent = false
is_own Zeros = false
is_own (Own b) = true

-- the bytes of a page, of which an absent one has none
abbrev pub list_of : List ℕ → Bytes → List ℕ
list_of zeros Absent = []
list_of zeros Zeros = zeros
list_of zeros (Own b) = b.value

-- the page's own bytes, or none
abbrev pub own_of : Bytes → List ℕ
own_of Absent = []
own_of Zeros = []
own_of (Own b) = b.value

-- a number is read where the page is present
abbrev pub IsHeldNumber : Option ℕ → List ℕ → Slot → Bool → ℕ → ℕ → Type 0
IsHeldNumber None z s big n o = Unit {0}
IsHeldNumber (Some v) z s big n o = (is_held s.bytes ≡ true) × (length (list_of z s.bytes) ≡ 4096) × (v ≡ number_of big (take n (drop o (list_of z s.bytes))))

-- a number is read where it can be
abbrev pub IsNumberAt : Option ℕ → List ℕ → Slot → Bool → ℕ → ℕ → Type 0
IsNumberAt None z s big n o = Unit {0}
IsNumberAt (Some v) z s big n o = (s.kind ≢ Mixed) × (is_held s.bytes ≡ true) × (length (list_of z s.bytes) ≡ 4096) × (v ≡ number_of big (take n (drop o (list_of z s.bytes))))

-- bytes are written where the page has bytes of its own
abbrev pub IsSetIn : Bool → Slot → Slot → ℕ → List ℕ → Type 0
IsSetIn false old new o bs = new ≡ old
IsSetIn true old new o bs =
    (is_own old.bytes ≡ true) × (length (own_of old.bytes) ≡ 4096)
    × (new.kind ≡ old.kind) × (is_own new.bytes ≡ true) × (new.dirty ≡ true) × (own_of new.bytes ≡ splice (own_of old.bytes) o bs)

-- bytes are written where they can be
abbrev pub IsStoredIn : Bool → Slot → Slot → ℕ → List ℕ → Type 0
IsStoredIn false old new o bs = new ≡ old
IsStoredIn true old new o bs =
    (old.kind ≡ Writable) × (is_own old.bytes ≡ true) × (length (own_of old.bytes) ≡ 4096)
    × (new.kind ≡ Writable) × (is_own new.bytes ≡ true) × (new.dirty ≡ true) × (own_of new.bytes ≡ splice (own_of old.bytes) o bs)

-- what a page is that the table does not have
abbrev pub nothing : Slot
nothing = record { kind = Mixed; dirty = false; bytes = Absent }

-- bytes take the place of others in a page that has bytes of its own
pub record IsLaidIn (old new : Slot) (o : ℕ) (bs : List ℕ) : Type 0 where
  pub kind : new.kind ≡ old.kind
  pub dirty : new.dirty ≡ old.dirty
  pub own : is_own new.bytes ≡ true
  pub bytes : own_of new.bytes ≡ splice (own_of old.bytes) o bs
  pub whole : length (own_of old.bytes) ≡ 4096

-- bytes are written in a page that has bytes of its own
pub record IsPutIn (old new : Slot) (o : ℕ) (bs : List ℕ) : Type 0 where
  pub kind : new.kind ≡ old.kind
  pub dirty : new.dirty ≡ true
  pub own : is_own new.bytes ≡ true
  pub bytes : own_of new.bytes ≡ splice (own_of old.bytes) o bs
  pub whole : length (own_of old.bytes) ≡ 4096
