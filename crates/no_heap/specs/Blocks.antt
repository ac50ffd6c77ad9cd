-- The live blocks of a heap: which lists of them may stand, and what a list says of a place.
use Rattle.std.specs.Prelude.{ℕ, ◌+◌, ◌%◌, ◌≡◌, ◌<◌, ◌≤◌, ◌==◌, nat_lt, if◌then◌else◌, List, [], ◌∷◌, ◌⊎◌, ◌≢◌, Bool, true, false, length, take, Result, Ok, Err}
use Rattle.std.specs.List.{remove}
use Rattle.no_ir.specs.declared.ending.Trap.{Trap}
use Rattle.no_ir.specs.declared.ending.Trap.TheVariants.{BadFree}
use Rattle.no_heap.specs.declared.block.Block.{Block}
use Rattle.no_heap.specs.declared.block.HeapError.{HeapError}
use Rattle.no_heap.specs.declared.block.HeapError.TheVariants.{NoMemory, Bad}
use Rattle.no_heap.specs.declared.block.TheConstants.{HEAP_START, HEAP_END, MOST_BLOCKS}

-- the place behind a block's last byte
abbrev pub block_end : Block → ℕ
block_end b = b.at + b.size

-- a block that may be live: a multiple of 16 in place and size, not empty, and inside the heap
pub record IsFormed (b : Block) : Type 0 where
  pub place : b.at % 16 ≡ 0
  pub multiple : b.size % 16 ≡ 0
  pub some : 0 < b.size
  pub above : HEAP_START ≤ b.at
  pub below : block_end b ≤ HEAP_END

-- a block that may stand behind what ends here
pub record StandsAbove (end : ℕ) (b : Block) : Type 0 where
  pub formed : IsFormed b
  pub above : end ≤ b.at

-- formed blocks, the first of which begins at or above `low`, and each other at or above the last one's end
abbrev pub IsRising : ℕ → List Block → Type 0
IsRising low [] = Unit {0}
IsRising low (b ∷ bs) = IsFormed b × (low ≤ b.at) × IsRising (block_end b) bs

-- the blocks of a heap
pub record AreLive (bs : List Block) : Type 0 where
  pub few : length bs ≤ MOST_BLOCKS
  pub rising : IsRising HEAP_START bs

-- the blocks in front of this one may stand, and those up to it may not
pub record IsFirstBad (bs : List Block) (index : ℕ) : Type 0 where
  pub within : index < length bs
  pub front : AreLive (take index bs)
  pub bad : ¬ AreLive (take (index + 1) bs)

-- the size of the block that begins at a place, and 0 where none does
abbrev pub size_at : List Block → ℕ → ℕ
size_at [] p = 0
size_at (b ∷ bs) p = if b.at == p then b.size else size_at bs p

-- the list behind a block of this place and size, where size 0 is no block
abbrev pub behind : ℕ → ℕ → List Block → List Block
behind at size bs = if size == 0 then bs else record { at = at; size = size } ∷ bs

-- the list without its first block, where that begins at this place
abbrev pub without_at : ℕ → Block → List Block → List Block
without_at at b bs = if b.at == at then bs else b ∷ bs

-- a rising list once the block at a place has this size: put in, changed, or with size 0 taken away
abbrev pub set_block : List Block → ℕ → ℕ → List Block
set_block [] at size = behind at size []
set_block (b ∷ bs) at size = if nat_lt b.at at then b ∷ set_block bs at size else behind at size (without_at at b bs)

-- whether a block began at a place, and if so the blocks without it
abbrev pub TakesOut : Bool → List Block → List Block → ℕ → Type 0
TakesOut true old new addr = (0 < size_at old addr) × (new ≡ set_block old addr 0)
TakesOut false old new addr = (size_at old addr ≡ 0) × (new ≡ old)

-- what a free answers: address 0 changes nothing, a live block's is taken out, and any other is a bad free
abbrev pub Frees : Result (Unit {0}) Trap → List Block → List Block → ℕ → Type 0
Frees (Ok done) old new addr = ((addr ≡ 0) × (new ≡ old)) ⊎ ((addr ≢ 0) × (0 < size_at old addr) × (new ≡ set_block old addr 0))
Frees (Err trap) old new addr = (trap ≡ BadFree) × (addr ≢ 0) × (size_at old addr ≡ 0) × (new ≡ old)

-- the block of this index begins at a place: without it the blocks are as they are once the place has no block
pub record IsBlockAt (bs : List Block) (addr index : ℕ) : Type 0 where
  pub within : index < length bs
  pub there : 0 < size_at bs addr
  pub gone : remove bs index ≡ set_block bs addr 0

-- what blocks make: a heap of them, which may stand, or the first that may not; memory may be wanting
abbrev pub SaysHeap : Result (List Block) HeapError → List Block → Type 0
SaysHeap (Ok heap) bs = (heap ≡ bs) × AreLive bs
SaysHeap (Err (Bad index)) bs = IsFirstBad bs index
SaysHeap (Err NoMemory) bs = Unit {0}
