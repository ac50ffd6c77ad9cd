-- Lists of watchers, seen as lists of numbers.
use Rattle.std.proofs.Common.{◌≡◌, ℕ, suc, zero, ◌<◌, List, [], ◌∷◌, length, map, get_or, set, Vec, ap, ◌∙◌, arith}
use Rattle.std.proofs.lemmas.List.{map-set}
use Rattle.std.specs.declared.alloc.Global.{Global}
use Rattle.no_read_types.specs.Graph.{references_at}

abbrev pub seen_items : Vec ℕ Global → List ℕ
seen_items v = v.items

pub seen_set : (lists : List (Vec ℕ Global)) (w : ℕ) (v : Vec ℕ Global) (xs : List ℕ) → v.items ≡ xs → map seen_items (set lists w v) ≡ set (map seen_items lists) w xs
seen_set lists w v xs e = map-set seen_items lists w v ∙ ap (set (map seen_items lists) w) e

pub seen_at : (lists : List (Vec ℕ Global)) (w : ℕ) (d v : Vec ℕ Global) → w < length lists → v ≡ get_or lists w d → v.items ≡ references_at (map seen_items lists) w
seen_at [] w d v lt e = absurd (omega arith)
seen_at (l ∷ lists) zero d v lt e = ap seen_items e
seen_at (l ∷ lists) (suc w) d v lt e = seen_at lists w d v (omega arith) e
