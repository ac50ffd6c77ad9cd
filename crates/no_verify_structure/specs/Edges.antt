-- Tables of predecessors: for each label those that lead to it, as they are found edge by edge.
use Rattle.std.specs.Prelude.{◌≡◌, ℕ, nat_lt, ◌==◌, List, [], length, take, slice_get, slice_index_or, slice_set, replicate, Option, Some, None, if◌then◌else◌}
use Rattle.std.specs.List.{fold}
use Rattle.no_ir.specs.declared.instruction.Operand.{Operand}
use Rattle.no_ir.specs.declared.function.Block.{Block}
use Rattle.no_ir.specs.declared.function.Function.{Function}
use Rattle.no_verify_structure.specs.Names.{with_number}
use Rattle.no_verify_structure.specs.Phis.{block_exits, pair_of}

-- a table with one edge more, from a label to one that the table has
abbrev pub with_edge : ℕ → List (List ℕ) → ℕ → List (List ℕ)
with_edge from table to = if nat_lt to (length table) then slice_set table to (with_number (slice_index_or table to []) from) else table

-- a table with the edges of one block more
abbrev pub with_exits : List (List ℕ) → Block → List (List ℕ)
with_exits table block = fold (with_edge block.label) table (block_exits block)

-- the table of a function, which has its labels
abbrev pub table_of : Function → List (List ℕ)
table_of f = fold with_exits (replicate (length f.labels) []) f.blocks

-- nothing leads to a label that a table doesn't have
abbrev pub entry_of : Option (List ℕ) → List ℕ
entry_of None = []
entry_of (Some before) = before

-- ---- the first pair of each label, by a table of places

-- the pair at a place, where there is a place
abbrev pub pair_at : List (Operand × ℕ) → Option ℕ → Option (Operand × ℕ)
pair_at pairs None = None
pair_at pairs (Some i) = slice_get pairs i

-- place i, where no pair was found before
abbrev pub place_or : ℕ → Option (Operand × ℕ) → Option ℕ → Option ℕ
place_or i None before = Some i
place_or i (Some pair) before = before

-- what the table has at label l once pair i has been seen, whose label is k: there the place i, if nothing was found before
abbrev pub first_pair : List (Operand × ℕ) → ℕ → ℕ → Option ℕ → Option ℕ → ℕ → Option ℕ
first_pair pairs i k at_l at_k l = if k == l then place_or i (pair_at pairs at_k) at_l else at_l

-- the table has the first pair of each label among the first i pairs
abbrev pub AreFirst : List (Operand × ℕ) → ℕ → (ℕ → Option ℕ) → Type 0
AreFirst pairs i firsts = (l : ℕ) → pair_at pairs (firsts l) ≡ pair_of (take i pairs) l
