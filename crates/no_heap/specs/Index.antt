-- The index over gaps: no gap in front of a block of a run is larger than what the index says of that run.
use Rattle.std.specs.Prelude.{ℕ, ◌+◌, ◌-◌, ◌*◌, ◌/◌, ◌≡◌, ◌<◌, ◌≤◌, ◌==◌, if◌then◌else◌, List, length, slice_index, slice_index_or}
use Rattle.no_heap.specs.declared.block.Block.{Block}
use Rattle.no_heap.specs.declared.block.TheConstants.{HEAP_START, RUN, RUNS}
use Rattle.no_heap.specs.Blocks.{block_end}

-- the block of an index
abbrev pub block_of : List Block → ℕ → Block
block_of bs i = slice_index_or bs i (record { at = 0; size = 0 })

-- the place behind the block in front of an index, and the heap's start in front of the first
abbrev pub end_before : List Block → ℕ → ℕ
end_before bs i = if i == 0 then HEAP_START else block_end (block_of bs (i - 1))

-- how many bytes are free in front of the block of an index
abbrev pub gap_before : List Block → ℕ → ℕ
gap_before bs i = (block_of bs i).at - end_before bs i

-- a number for each run, which no gap of the run exceeds
pub record AreWidest (bs : List Block) (widest : List ℕ) : Type 0 where
  pub runs : length widest ≡ RUNS
  pub most : (i : ℕ) → i < length bs → gap_before bs i ≤ slice_index widest (i / RUN)

-- no number has fallen, and those of every so many blocks from an index on are no exceptions
pub record AreRaised (bs : List Block) (old new : List ℕ) (first : ℕ) : Type 0 where
  pub runs : length new ≡ length old
  pub later : (k : ℕ) → slice_index old k ≤ slice_index new k
  pub each : (m : ℕ) → first + RUN * m < length bs → gap_before bs (first + RUN * m) ≤ slice_index new ((first + RUN * m) / RUN)
