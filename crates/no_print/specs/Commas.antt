-- Lists with commas, item by item.
use Rattle.std.specs.Prelude.{ℕ, zero, suc, List, []}
use Rattle.no_print.specs.Pieces.{Piece, comma, behind_commas, spaced, with_commas}

-- what stands in front of the item of this number
abbrev pub break : ℕ → List Piece
break zero = []
break (suc k) = comma

-- the blanks in front of the item of this number
abbrev pub gap_at : List ℕ → ℕ → List ℕ
gap_at gap zero = gap
gap_at gap (suc k) = spaced

-- items from this number on
abbrev pub items_from : {A : Type 0} → (List ℕ → A → List Piece) → List ℕ → ℕ → List A → List Piece
items_from f gap zero all = with_commas f gap all
items_from f gap (suc k) all = behind_commas (f spaced) all
