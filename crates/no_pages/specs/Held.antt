-- Pages that are kept, and a memory in which they replace others.
use Rattle.std.specs.Prelude.{◌≡◌, ℕ, ◌*◌, ◌%◌, Bool, true, nat_eq, nat_lt, if◌then◌else◌, List, length, slice_index, Option, Some, None}
use Rattle.no_layout.specs.Memory.{page_of, page_size, written}

-- the pages that are kept, and these bytes of one
abbrev pub with_page : (ℕ → Option (List ℕ)) → ℕ → List ℕ → ℕ → Option (List ℕ)
with_page kept p bytes q = if nat_eq q p then Some bytes else kept q

-- the byte at a place of a page that is kept, and else the one that was there
abbrev pub at_place : Option (List ℕ) → ℕ → ℕ → ℕ
at_place None offset byte = byte
at_place (Some bytes) offset byte = slice_index bytes offset

-- a memory in which each page that is kept replaces the one that was there
abbrev pub over : (ℕ → Option (List ℕ)) → (ℕ → ℕ) → ℕ → ℕ
over kept byte a = at_place (kept (page_of a)) (a % 4096) (byte a)

-- a page is present where it is kept
abbrev pub IsHeld : (ℕ → Bool) → ℕ → Option (List ℕ) → Type 0
IsHeld held p None = Unit {0}
IsHeld held p (Some bytes) = held p ≡ true

-- each page that is kept is present
abbrev pub AreHeld : (ℕ → Bool) → (ℕ → Option (List ℕ)) → Type 0
AreHeld held kept = (p : ℕ) → IsHeld held p (kept p)

-- what one page that may be kept does
abbrev pub IsLaid : Option (List ℕ) → ℕ → (ℕ → ℕ) → (ℕ → ℕ) → Type 0
IsLaid None p old new = new ≡ old
IsLaid (Some bytes) p old new = (length bytes ≡ 4096) × (new ≡ written old (page_size * p) bytes)

-- the pages below n that are kept
abbrev pub first : ℕ → (ℕ → Option (List ℕ)) → ℕ → Option (List ℕ)
first n kept p = if nat_lt p n then kept p else None
