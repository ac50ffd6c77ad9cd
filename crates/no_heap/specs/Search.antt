-- A search for the first gap, which passes the blocks in their order.
use Rattle.std.specs.Prelude.{ℕ, suc, ◌+◌, ◌≡◌, ◌<◌, ◌≤◌, nat_le, min, if◌then◌else◌, List, [], ◌∷◌, length, drop}
use Rattle.no_heap.specs.declared.block.Block.{Block}
use Rattle.no_heap.specs.declared.block.TheConstants.{HEAP_START, HEAP_END, RUN}
use Rattle.no_heap.specs.Blocks.{IsRising, block_end}
use Rattle.no_heap.specs.Fit.{first_gap, IsGapAt}
use Rattle.no_heap.specs.Index.{end_before, gap_before}

-- how many blocks stand below the first gap
abbrev pub gap_index : ℕ → ℕ → List Block → ℕ
gap_index low size [] = 0
gap_index low size (b ∷ bs) = if nat_le (low + size) b.at then 0 else suc (gap_index (block_end b) size bs)

-- a search for the first gap that has come to the block `i`, behind a block that ends at a place
pub record Along (bs : List Block) (size at i : ℕ) : Type 0 where
  pub gap : first_gap at size (drop i bs) ≡ first_gap HEAP_START size bs
  pub index : i + gap_index at size (drop i bs) ≡ gap_index HEAP_START size bs
  pub rising : IsRising at (drop i bs)
  pub most : at ≤ HEAP_END

-- the search has come to the block of an index
abbrev pub HasCome : List Block → ℕ → ℕ → Type 0
HasCome bs size i = Along bs size (end_before bs i) i

-- where the run from an index on ends
abbrev pub run_end : List Block → ℕ → ℕ
run_end bs from = min (from + RUN) (length bs)

-- the search has come to the end of a run, whose gaps are no larger than this
pub record HasPassed (bs : List Block) (size from widest : ℕ) : Type 0 where
  pub come : HasCome bs size (run_end bs from)
  pub most : (i : ℕ) → from ≤ i → i < run_end bs from → gap_before bs i ≤ widest

-- the first gap, which stands behind the block in front of its index
pub record IsFirstGap (bs : List Block) (size index place : ℕ) : Type 0 where
  pub gap : IsGapAt bs size index place
  pub behind : place ≡ end_before bs index
