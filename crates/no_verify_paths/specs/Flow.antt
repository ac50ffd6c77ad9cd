-- Sets that flow along the edges of a graph: what is kept while they settle.
use Rattle.std.specs.Prelude.{◌≡◌, ℕ, ◌+◌, ◌*◌, ◌<◌, ◌≤◌, true, false, ◌||◌, ◌⊎◌, List, [], ◌∷◌, ◌++◌, length, sum, slice_get, slice_index, Option, Some, None, Vec}
use Rattle.std.specs.Global.{Global}
use Rattle.std.specs.List.{All, Contains}
use Rattle.no_verify_paths.specs.Words.{has}

-- ---- lists of lists

-- the items of a row, none where there is no row
abbrev pub items_in : {T : Type 0} → Option (Vec T Global) → List T
items_in None = []
items_in (Some row) = row.items

-- row j, empty where there is none
unfoldable pub row : {T : Type 0} → List (Vec T Global) → ℕ → List T
row rows j = items_in (slice_get rows j)

-- the successors of each of n blocks, which are blocks too
pub record IsGraph (next : List (Vec ℕ Global)) (n : ℕ) : Type 0 where
  pub width : length next ≡ n
  pub inside : (a : ℕ) → All (λ b. b < n) (row next a)

-- ---- the work list

-- the blocks that are still to be looked at, and how many blocks there are
pub record Waiting : Type 0 where
  pub blocks : List ℕ
  pub room : ℕ

-- what a take from the work list gives: its last block, which waits no more, or nothing from an empty list
abbrev pub Taken : Option ℕ → Waiting → Waiting → Type 0
Taken None old new = (old.blocks ≡ []) × (new ≡ old)
Taken (Some b) old new = (old.blocks ≡ new.blocks ++ b ∷ []) × (new.room ≡ old.room) × (b < old.room)

-- block b waits from now on, and so does whatever waited; the list grows by one at most
pub record Added (b : ℕ) (old new : Waiting) : Type 0 where
  pub there : Contains new.blocks b
  pub kept : (x : ℕ) → Contains old.blocks x → Contains new.blocks x
  pub room : new.room ≡ old.room
  pub short : length new.blocks ≤ length old.blocks + 1

-- ---- one block is passed on

-- The set that a block has at its end was met with the sets of these targets.
-- Whatever set changed, its block waits.
pub record Passed (targets : List ℕ) (out : ℕ) (old new : List ℕ) (before after : Waiting) : Type 0 where
  pub down : (b i : ℕ) → has (slice_index new b) i ≡ true → has (slice_index old b) i ≡ true
  pub lost : (b i : ℕ) → has (slice_index new b) i ≡ false → (has (slice_index old b) i ≡ false) ⊎ (Contains targets b × (has out i ≡ false))
  pub met : (b i : ℕ) → Contains targets b → has (slice_index new b) i ≡ true → has out i ≡ true
  pub told : (b : ℕ) → (slice_index new b ≡ slice_index old b) ⊎ Contains after.blocks b
  pub kept : (b : ℕ) → Contains before.blocks b → Contains after.blocks b
  pub room : after.room ≡ before.room
  pub less : 2 * sum new + length after.blocks ≤ 2 * sum old + length before.blocks

-- ---- all blocks

-- a path from the entry to block b along which no block has the member i
abbrev pub Goes : (ℕ → List ℕ) → List ℕ → ℕ → List ℕ → ℕ → Type 0
Goes next gens b [] i = b ≡ 0
Goes next gens b (a ∷ before) i = Contains (next a) b × (has (slice_index gens a) i ≡ false) × Goes next gens a before i

-- the member i is missing at the beginning of block b on some path
abbrev pub Misses : (ℕ → List ℕ) → List ℕ → ℕ → ℕ → ℕ → Type 0
Misses next gens start b i = (before : List ℕ) × Goes next gens b before i × (has start i ≡ false)

-- what holds while sets settle: the entry has no member but those of `start`, whatever a set lacks some path misses,
-- and an edge lets nothing through that the block before it neither has nor adds, unless that block waits
pub record Flowing (next : ℕ → List ℕ) (gens : List ℕ) (start : ℕ) (sets : List ℕ) (waiting : Waiting) : Type 0 where
  pub entry : (i : ℕ) → has (slice_index sets 0) i ≡ true → has start i ≡ true
  pub shown : (b i : ℕ) → b < length sets → i < 64 → has (slice_index sets b) i ≡ false → Misses next gens start b i
  pub closed : (a b i : ℕ) → i < 64 → Contains (next a) b → Contains waiting.blocks a ⊎ (has (slice_index sets b) i ≡ true → (has (slice_index sets a) i || has (slice_index gens a) i) ≡ true)
  pub room : waiting.room ≡ length sets

-- a set has exactly the members that no path to its block's beginning misses
pub record Settled (next : ℕ → List ℕ) (gens : List ℕ) (start : ℕ) (sets : List ℕ) : Type 0 where
  pub shown : (b i : ℕ) → b < length sets → i < 64 → has (slice_index sets b) i ≡ false → Misses next gens start b i
  pub sound : (b i : ℕ) → i < 64 → Misses next gens start b i → has (slice_index sets b) i ≡ false
