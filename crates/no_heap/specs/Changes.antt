-- What changed between two heaps, told as entries, and what entries leave of a heap.
use Rattle.std.specs.Prelude.{ℕ, ◌+◌, ◌≡◌, ◌==◌, Bool, true, false, ◌&&◌, ◌||◌, nat_le, nat_lt, if◌then◌else◌, List, [], ◌∷◌, Option, Some, None}
use Rattle.no_heap.specs.declared.block.Block.{Block}
use Rattle.no_heap.specs.declared.block.Entry.{Entry}
use Rattle.no_heap.specs.Blocks.{AreLive, size_at, set_block}

-- entries at rising places, the first at or above `low`
abbrev pub rises_from : ℕ → List Entry → Bool
rises_from low [] = true
rises_from low (e ∷ es) = nat_le low e.at && rises_from (e.at + 1) es

-- an entry that takes a block away finds one there
abbrev pub finds : List Block → Entry → Bool
finds bs e = nat_lt 0 e.size || nat_lt 0 (size_at bs e.at)

-- the blocks once each entry has been told, and none where one takes away what is not there
abbrev pub told : List Block → List Entry → Option (List Block)
told bs [] = Some bs
told bs (e ∷ es) = if finds bs e then told (set_block bs e.at e.size) es else None

-- the blocks that entries leave, and none where they do not rise or take away what is not there
abbrev pub left : List Block → List Entry → Option (List Block)
left bs es = if rises_from 0 es then told bs es else None

-- what an answer to entries says: all of them were told and leave a heap, or nothing changed and they leave none
abbrev pub Applies : Bool → List Block → List Block → List Entry → Type 0
Applies true old new es = (left old es ≡ Some new) × AreLive new
Applies false old new es = (new ≡ old) × ((bs : List Block) → left old es ≡ Some bs → ¬ AreLive bs)

-- the size that entries tell of a place
abbrev pub entry_at : List Entry → ℕ → Option ℕ
entry_at [] p = None
entry_at (e ∷ es) p = if e.at == p then Some e.size else entry_at es p

-- what is to be told of a place: its size now, where that is not what it was
abbrev pub change_at : List Block → List Block → ℕ → Option ℕ
change_at now since p = if size_at now p == size_at since p then None else Some (size_at now p)

-- rising entries, one for each place whose block differs
pub record AreChanges (now since : List Block) (es : List Entry) : Type 0 where
  pub rise : rises_from 0 es ≡ true
  pub each : (p : ℕ) → entry_at es p ≡ change_at now since p
