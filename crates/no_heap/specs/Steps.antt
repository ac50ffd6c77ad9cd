-- What one step does in telling entries of blocks, and in comparing two lists of blocks. Lists are read from the front.
use Rattle.std.specs.Prelude.{ℕ, ◌+◌, ◌≡◌, ◌<◌, ◌≤◌, Bool, true, false, List, [], ◌∷◌, ◌++◌, length, drop, slice_index_or, Option, Some, None}
use Rattle.std.specs.Option.{option_to_list}
use Rattle.no_heap.specs.declared.block.Block.{Block}
use Rattle.no_heap.specs.declared.block.Entry.{Entry}
use Rattle.no_heap.specs.declared.block.TheConstants.{MOST_BLOCKS}
use Rattle.no_heap.specs.Blocks.{AreLive, IsRising}
use Rattle.no_heap.specs.Changes.{rises_from, told, entry_at, change_at}

-- ---- telling

-- blocks in front of a list, where there is one
abbrev pub with_front : List Block → Option (List Block) → Option (List Block)
with_front xs None = None
with_front xs (Some ys) = Some (xs ++ ys)

-- one block more, or no room for it
abbrev pub Puts : Bool → List Block → List Block → Block → Type 0
Puts true old new block = new ≡ old ++ block ∷ []
Puts false old new block = (MOST_BLOCKS ≤ length old) × (new ≡ old)

-- all of the blocks more, or no room for them
abbrev pub PutsAll : Bool → List Block → List Block → List Block → Type 0
PutsAll true old new rest = new ≡ old ++ rest
PutsAll false old new rest = MOST_BLOCKS < length (old ++ rest)

-- the first of the blocks that are left
abbrev pub first_of : List Block → Block
first_of bs = slice_index_or bs 0 (record { at = 0; size = 0 })

-- so many blocks and entries are done with: what is done and what is left make the same list as before
pub record IsAdvance (old new kept : List Block) (e : Entry) (blocks entries : ℕ) : Type 0 where
  pub same : (es : List Entry) → rises_from 0 (e ∷ es) ≡ true → with_front old (told kept (e ∷ es)) ≡ with_front new (told (drop blocks kept) (drop entries (e ∷ es)))
  pub moves : 0 < blocks + entries
  pub within : blocks ≤ length kept
  pub one : entries ≤ 1

-- the blocks that are done with, and what the rest leaves, make no heap
pub record IsStuck (old kept : List Block) (e : Entry) : Type 0 where
  pub stuck : (es : List Entry) → rises_from 0 (e ∷ es) ≡ true → (bs : List Block) → with_front old (told kept (e ∷ es)) ≡ Some bs → ¬ AreLive bs

-- the list that entries leave, or that they leave none which makes a heap
abbrev pub Merges : Bool → Option (List Block) → List Block → Type 0
Merges true left out = left ≡ Some out
Merges false left out = (bs : List Block) → left ≡ Some bs → ¬ AreLive bs

-- blocks that make a heap are left, or none that do
abbrev pub Leaves : Bool → Option (List Block) → List Block → Type 0
Leaves true left out = (left ≡ Some out) × AreLive out
Leaves false left out = (bs : List Block) → left ≡ Some bs → ¬ AreLive bs

-- ---- comparing

-- what the one says, and what the other says where the one says nothing
abbrev pub or_else : Option ℕ → Option ℕ → Option ℕ
or_else None other = other
or_else (Some n) other = Some n

-- what is told lies at or above `low`, and what is left above that
abbrev pub IsAbove : ℕ → Option Entry → List Block → List Block → Type 0
IsAbove low None now since = IsRising low now × IsRising low since
IsAbove low (Some e) now since = (low ≤ e.at) × IsRising (e.at + 1) now × IsRising (e.at + 1) since

-- so many blocks of both lists are done with: what is told and what is left tell the same of each place as before
pub record IsCompared (now since : List Block) (entry : Option Entry) (n m : ℕ) : Type 0 where
  pub each : (p : ℕ) → change_at now since p ≡ or_else (entry_at (option_to_list entry) p) (change_at (drop n now) (drop m since) p)
  pub above : (low : ℕ) → IsRising low now → IsRising low since → IsAbove low entry (drop n now) (drop m since)
  pub moves : 0 < n + m
  pub within_now : n ≤ length now
  pub within_since : m ≤ length since
