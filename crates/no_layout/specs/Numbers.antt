-- Numbers in a memory: what a load gives, and what a store does.
use Rattle.std.specs.Prelude.{◌≡◌, ℕ, ◌+◌, ◌-◌, ◌≤◌, ◌&&◌, ◌||◌, nat_le, Bool, true, false, List, length, replicate}
use Rattle.no_layout.specs.Memory.{access, page_of, read_number, write_number, written}
use Rattle.no_layout.specs.declared.memory.Regions.{Regions}
use Rattle.no_layout.specs.declared.memory.Access.TheVariants as access'
use Rattle.no_layout.specs.declared.memory.Loaded.{Loaded}
use Rattle.no_layout.specs.declared.memory.Loaded.TheVariants as loaded
use Rattle.no_layout.specs.declared.memory.Stored.{Stored}
use Rattle.no_layout.specs.declared.memory.Stored.TheVariants as stored

-- a load gives the number where the access is done, and else what the access answers
abbrev pub IsLoaded : Loaded → Regions → (ℕ → Bool) → (ℕ → ℕ) → Bool → ℕ → ℕ → Type 0
IsLoaded (loaded.Value v) r held byte big at n = (access r held false at n ≡ access'.Done) × (v ≡ read_number big byte at n)
IsLoaded (loaded.Missing page) r held byte big at n = access r held false at n ≡ access'.Missing page
IsLoaded (loaded.Refused trap) r held byte big at n = access r held false at n ≡ access'.Refused trap

-- a store leaves the bytes in memory where the access is done, and else changes none
abbrev pub IsWritten : Stored → Regions → (ℕ → Bool) → (ℕ → ℕ) → (ℕ → ℕ) → ℕ → List ℕ → Type 0
IsWritten stored.Done r held old new at bytes = (access r held true at (length bytes) ≡ access'.Done) × (new ≡ written old at bytes)
IsWritten (stored.Missing page) r held old new at bytes = (access r held true at (length bytes) ≡ access'.Missing page) × (new ≡ old)
IsWritten (stored.Refused trap) r held old new at bytes = (access r held true at (length bytes) ≡ access'.Refused trap) × (new ≡ old)
IsWritten stored.NoMemory r held old new at bytes = (access r held true at (length bytes) ≡ access'.Done) × (new ≡ old)

-- the same of a number of n bytes
abbrev pub IsStored : Stored → Regions → (ℕ → Bool) → (ℕ → ℕ) → (ℕ → ℕ) → Bool → ℕ → ℕ → ℕ → Type 0
IsStored stored.Done r held old new big at n v = (access r held true at n ≡ access'.Done) × (new ≡ write_number big old at n v)
IsStored (stored.Missing page) r held old new big at n v = (access r held true at n ≡ access'.Missing page) × (new ≡ old)
IsStored (stored.Refused trap) r held old new big at n v = (access r held true at n ≡ access'.Refused trap) × (new ≡ old)
IsStored stored.NoMemory r held old new big at n v = (access r held true at n ≡ access'.Done) × (new ≡ old)

-- the pages, and those of n bytes
abbrev pub marked : (ℕ → Bool) → ℕ → ℕ → ℕ → Bool
marked dirty at n p = dirty p || (nat_le (page_of at) p && nat_le p (page_of (at + n - 1)))

-- a store marks the pages that it wrote
abbrev pub IsMarked : Stored → (ℕ → Bool) → (ℕ → Bool) → ℕ → ℕ → Type 0
IsMarked stored.Done old new at n = new ≡ marked old at n
IsMarked (stored.Missing page) old new at n = new ≡ old
IsMarked (stored.Refused trap) old new at n = new ≡ old
IsMarked stored.NoMemory old new at n = new ≡ old

-- one of the pages of n bytes has no bytes of its own
abbrev pub IsShared : (ℕ → Bool) → ℕ → ℕ → Type 0
IsShared own at n = (p : ℕ) × (page_of at ≤ p) × (p ≤ page_of (at + n - 1)) × (own p ≡ false)

-- the same of one byte, n times
abbrev pub IsSet : Stored → Regions → (ℕ → Bool) → (ℕ → ℕ) → (ℕ → ℕ) → ℕ → ℕ → ℕ → Type 0
IsSet stored.Done r held old new at n v = (access r held true at n ≡ access'.Done) × (new ≡ written old at (replicate n v))
IsSet (stored.Missing page) r held old new at n v = (access r held true at n ≡ access'.Missing page) × (new ≡ old)
IsSet (stored.Refused trap) r held old new at n v = (access r held true at n ≡ access'.Refused trap) × (new ≡ old)
IsSet stored.NoMemory r held old new at n v = (access r held true at n ≡ access'.Done) × (new ≡ old)
