-- Where a new block goes: the least place at which it fits between the live ones.
use Rattle.std.specs.Prelude.{ℕ, ◌+◌, ◌%◌, ◌≡◌, ◌<◌, ◌≤◌, max, nat_le, nat_lt, if◌then◌else◌, ◌⊎◌, List, [], ◌∷◌, length, Option, Some, None, All}
use Rattle.std.specs.List.{insert}
use Rattle.std.specs.Int.{next_multiple_of}
use Rattle.no_heap.specs.declared.block.Block.{Block}
use Rattle.no_heap.specs.declared.block.TheConstants.{HEAP_START, HEAP_END, MOST_BLOCKS}
use Rattle.no_heap.specs.Blocks.{block_end, set_block}

-- the size of a block for so many bytes: a multiple of 16, at least 16
abbrev pub rounded : ℕ → ℕ
rounded size = max 16 (next_multiple_of size 16)

-- a block of this size may be put at a place: a multiple of 16, in the heap, and clear of each live block
pub record FitsAt (bs : List Block) (size place : ℕ) : Type 0 where
  pub multiple : place % 16 ≡ 0
  pub above : HEAP_START ≤ place
  pub below : place + size ≤ HEAP_END
  pub clear : All (λ b. (place + size ≤ b.at) ⊎ (block_end b ≤ place)) bs

-- the answer to a request: the least place of all at which it fits, or none where the heap is full or no place fits
abbrev pub IsFit : List Block → ℕ → Option ℕ → Type 0
IsFit bs size (Some place) = (length bs < MOST_BLOCKS) × FitsAt bs (rounded size) place × ((other : ℕ) → FitsAt bs (rounded size) other → place ≤ other)
IsFit bs size None = (length bs ≡ MOST_BLOCKS) ⊎ ((other : ℕ) → ¬ FitsAt bs (rounded size) other)

-- the plain way to that answer: the first gap, from `low` on, with room for the size
abbrev pub first_gap : ℕ → ℕ → List Block → Option ℕ
first_gap low size [] = if nat_le (low + size) HEAP_END then Some low else None
first_gap low size (b ∷ bs) = if nat_le (low + size) b.at then Some low else first_gap (block_end b) size bs

-- that gap: the blocks once a block of this size is put in at this index, as they are with one at this place
pub record IsGapAt (bs : List Block) (size index place : ℕ) : Type 0 where
  pub first : first_gap HEAP_START size bs ≡ Some place
  pub within : index ≤ length bs
  pub room : place + size ≤ HEAP_END
  pub put : insert bs index (record { at = place; size = size }) ≡ set_block bs place size

-- the answer to a request, as the plain way gives it
abbrev pub fit : List Block → ℕ → Option ℕ
fit bs size = if nat_lt (length bs) MOST_BLOCKS then first_gap HEAP_START (rounded size) bs else None
