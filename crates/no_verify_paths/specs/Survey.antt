-- What is noted of a function's instructions, before sets flow.
use Rattle.std.specs.Prelude.{◌≡◌, ℕ, ◌/◌, ◌<◌, Bool, true, false, ◌==◌, ◌||◌, ◌⊎◌, List, ◌∷◌, length, take, slice_index_or, Option, Some, None, Vec, if◌then◌else◌}
use Rattle.std.specs.Global.{Global}
use Rattle.std.specs.List.{Contains}
use Rattle.no_ir.specs.declared.instruction.Instr.{Instr}
use Rattle.no_ir.specs.declared.function.Function.{Function}
use Rattle.no_verify_paths.specs.Paths.{PathTo, assigned, assigns, code_of, block_of, uses, phi_uses, is_result, IsUnassigned, IsBefore}
use Rattle.no_verify_paths.specs.Flow.{row}
use Rattle.no_verify_paths.specs.declared.need.Need.{Need}
use Rattle.no_verify_paths.specs.declared.survey.Notebook.{Notebook}

-- ---- tables by number

-- what a table has at i
abbrev pub at : List (Option ℕ) → ℕ → Option ℕ
at table i = slice_index_or table i None

-- there is a number, and it is b
abbrev pub is_some_of : Option ℕ → ℕ → Bool
is_some_of None b = false
is_some_of (Some a) b = a == b

-- ---- needs

-- the blocks of a path to where the register is needed
abbrev pub blocks_to : Need → List ℕ → List ℕ
blocks_to u before = if u.at_end then u.block ∷ before else before

-- some path to where the register is needed does not assign it
pub record IsMissed (f : Function) (u : Need) : Type 0 where
  pub before : List ℕ
  pub path : PathTo f u.block before
  pub missed : assigned f (blocks_to u before) u.register ≡ false

-- a need in row j: it is of one of the row's registers, and where it is missed, so is a use of its instruction
pub record IsNeed (f : Function) (j : ℕ) (u : Need) : Type 0 where
  pub row : u.register / 64 ≡ j
  pub block : u.block < length f.blocks
  pub stands : IsMissed f u → IsUnassigned f u.user.0 u.user.1

-- the table of needs has one that stands for the unassigned use at place k of block b
pub record IsNoted (f : Function) (needs : List (Vec Need Global)) (b k : ℕ) : Type 0 where
  pub need : Need
  pub noted : Contains (row needs (need.register / 64)) need
  pub at_block : need.user.0 ≡ b
  pub at_place : need.user.1 ≡ k
  pub missed : IsMissed f need

-- an assignment in row j: register and block
pub record IsAssignment (f : Function) (j : ℕ) (p : ℕ × ℕ) : Type 0 where
  pub row : p.0 / 64 ≡ j
  pub block : p.1 < length f.blocks
  pub assigns : assigns p.0 (code_of f p.1) ≡ true

-- ---- what a step adds

-- to row j an item was added
pub record RowAdded {T : Type 0} (j : ℕ) (item : T) (old new : List (Vec T Global)) : Type 0 where
  pub kept : (i : ℕ) (x : T) → Contains (row old i) x → Contains (row new i) x
  pub only : (i : ℕ) (x : T) → Contains (row new i) x → Contains (row old i) x ⊎ ((i ≡ j) × (x ≡ item))
  pub there : Contains (row new j) item

-- the wanted needs were added, and no others
pub record Gathers (wanted : Need → Type 0) (old new : List (Vec Need Global)) : Type 0 where
  pub kept : (j : ℕ) (u : Need) → Contains (row old j) u → Contains (row new j) u
  pub only : (j : ℕ) (u : Need) → Contains (row new j) u → Contains (row old j) u ⊎ ((u.register / 64 ≡ j) × wanted u)
  pub all : (u : Need) → wanted u → Contains (row new (u.register / 64)) u

-- the need of a register at the beginning of the user's block
abbrev pub here : ℕ → ℕ × ℕ → Need
here r user = record { register = r; block = user.0; at_end = false; user = user }

-- the need of a register at the end of block b, from which a phi takes it
abbrev pub there : ℕ → ℕ → ℕ × ℕ → Need
there r b user = record { register = r; block = b; at_end = true; user = user }

-- one of these registers is needed, and none of the block's instructions so far has assigned it
pub record IsHere (registers : List ℕ) (marks : List (Option ℕ)) (user : ℕ × ℕ) (u : Need) : Type 0 where
  pub register : ℕ
  pub used : Contains registers register
  pub unmarked : is_some_of (at marks register) user.0 ≡ false
  pub need : u ≡ here register user

-- one of these registers is needed at the end of the block of its label
pub record IsThere (labels : List (Option ℕ)) (pairs : List (ℕ × ℕ)) (user : ℕ × ℕ) (u : Need) : Type 0 where
  pub register : ℕ
  pub label : ℕ
  pub block : ℕ
  pub used : Contains pairs (register, label)
  pub leads : at labels label ≡ Some block
  pub need : u ≡ there register block user

-- what an instruction of block n assigns was noted
pub record IsTold (result : Option ℕ) (n : ℕ) (old_marks new_marks : List (Option ℕ)) (old new : List (Vec (ℕ × ℕ) Global)) : Type 0 where
  pub kept : (j : ℕ) (p : ℕ × ℕ) → Contains (row old j) p → Contains (row new j) p
  pub only : (j : ℕ) (p : ℕ × ℕ) → Contains (row new j) p → Contains (row old j) p ⊎ ((r : ℕ) × (result ≡ Some r) × (j ≡ r / 64) × (p ≡ (r, n)))
  pub there : (r : ℕ) → is_result r result ≡ true → Contains (row new (r / 64)) (r, n)
  pub marked : (r : ℕ) → is_some_of (at new_marks r) n ≡ (is_some_of (at old_marks r) n || is_result r result)
  pub unmarked : (r c : ℕ) → n < c → is_some_of (at old_marks r) c ≡ false → is_some_of (at new_marks r) c ≡ false

-- the needs of an instruction, and what it assigns, were noted
pub record IsStep (i : Instr) (labels : List (Option ℕ)) (user : ℕ × ℕ) (old new : Notebook) : Type 0 where
  pub needs : Gathers (λ u. IsHere (uses i.op) old.marks.items user u ⊎ IsThere labels (phi_uses i.op) user u) old.needs.items new.needs.items
  pub result : IsTold i.result user.0 old.marks.items new.marks.items old.assignments.items new.assignments.items

-- What was noted of all instructions before place k of block b. The marks tell for each register which block has assigned it last.
pub record Notes (f : Function) (needs : List (Vec Need Global)) (assignments : List (Vec (ℕ × ℕ) Global)) (marks : List (Option ℕ)) (b k : ℕ) : Type 0 where
  pub stand : (j : ℕ) (u : Need) → Contains (row needs j) u → IsNeed f j u
  pub noted : (c i : ℕ) → IsBefore c i b k → IsUnassigned f c i → IsNoted f needs c i
  pub made : (j : ℕ) (p : ℕ × ℕ) → Contains (row assignments j) p → IsAssignment f j p
  pub told : (r c : ℕ) → c < b → assigns r (code_of f c) ≡ true → Contains (row assignments (r / 64)) (r, c)
  pub so_far : (r : ℕ) → assigns r (take k (code_of f b)) ≡ true → Contains (row assignments (r / 64)) (r, b)
  pub marked : (r : ℕ) → is_some_of (at marks r) b ≡ assigns r (take k (code_of f b))
  pub unmarked : (r c : ℕ) → b < c → is_some_of (at marks r) c ≡ false

-- a notebook holds what was noted of all instructions before place k of block b
abbrev pub IsNotebook : Function → Notebook → ℕ → ℕ → Type 0
IsNotebook f book b k = Notes f book.needs.items book.assignments.items book.marks.items b k

-- a table has the number of each label's first block
abbrev pub IsLabels : Function → List (Option ℕ) → Type 0
IsLabels f labels = (l : ℕ) → at labels l ≡ block_of f l
