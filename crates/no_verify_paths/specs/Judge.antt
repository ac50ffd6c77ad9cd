-- Which needs are missed, and the first of their users.
use Rattle.std.specs.Prelude.{◌≡◌, ℕ, ◌+◌, ◌*◌, ◌/◌, ◌%◌, ◌<◌, ◌≤◌, Bool, true, false, not, ◌&&◌, ◌||◌, ◌==◌, ◌⊎◌, List, length, slice_index, Option, Some, None, Vec, vec_len}
use Rattle.std.specs.Global.{Global}
use Rattle.std.specs.List.{Contains, list_any}
use Rattle.no_ir.specs.declared.types.Ty.{Ty}
use Rattle.no_ir.specs.declared.function.Function.{Function}
use Rattle.no_verify_paths.specs.Paths.{PathTo, assigned, assigns, code_of, is_among, successors}
use Rattle.no_verify_paths.specs.Words.{has}
use Rattle.no_verify_paths.specs.Flow.{row}
use Rattle.no_verify_paths.specs.Survey.{IsMissed, IsNotebook}
use Rattle.no_verify_paths.specs.declared.need.Need.{Need}
use Rattle.no_verify_paths.specs.declared.verdict.Sketch.{Sketch}

-- the parameters in their rows
pub record AreParameters (parameters : List (ℕ × Ty)) (rows : List (Vec ℕ Global)) : Type 0 where
  pub made : (j r : ℕ) → Contains (row rows j) r → (r / 64 ≡ j) × (is_among parameters r ≡ true)
  pub told : (r : ℕ) → is_among parameters r ≡ true → Contains (row rows (r / 64)) r

-- one of these registers is member i of its row
abbrev pub is_in_row : List ℕ → ℕ → Bool
is_in_row registers i = list_any (λ r. r % 64 == i) registers

-- block b assigns member i of the row
abbrev pub is_made : List (ℕ × ℕ) → ℕ → ℕ → Bool
is_made assignments b i = list_any (λ (p : ℕ × ℕ). p.1 == b && p.0 % 64 == i) assignments

-- The sets of row j have what each path assigns before a block, and what the block itself assigns.
pub record IsSolved (f : Function) (j : ℕ) (sets gens : List ℕ) : Type 0 where
  pub wide : length sets ≡ length f.blocks
  pub as_wide : length gens ≡ length f.blocks
  pub missed : (b i : ℕ) → b < length f.blocks → i < 64 → has (slice_index sets b) i ≡ false → (before : List ℕ) × PathTo f b before × (assigned f before (64 * j + i) ≡ false)
  pub met : (before : List ℕ) (b i : ℕ) → i < 64 → PathTo f b before → has (slice_index sets b) i ≡ true → assigned f before (64 * j + i) ≡ true
  pub made : (b i : ℕ) → b < length f.blocks → i < 64 → has (slice_index gens b) i ≡ assigns (64 * j + i) (code_of f b)

-- what the sets say of a need
abbrev pub is_missing : Need → List ℕ → List ℕ → Bool
is_missing u sets gens = not (has (slice_index sets u.block) (u.register % 64) || (u.at_end && has (slice_index gens u.block) (u.register % 64)))

-- place x does not come after place y
abbrev pub IsNotAfter : ℕ × ℕ → ℕ × ℕ → Type 0
IsNotAfter x y = (x.0 < y.0) ⊎ ((x.0 ≡ y.0) × (x.1 ≤ y.1))

-- a place was found that does not come after x
abbrev pub IsAtMost : Option (ℕ × ℕ) → ℕ × ℕ → Type 0
IsAtMost None x = ⊥
IsAtMost (Some y) x = IsNotAfter y x

-- the earlier one of what was found and a user
pub record IsEarlier (found : Option (ℕ × ℕ)) (user : ℕ × ℕ) (earlier : Option (ℕ × ℕ)) : Type 0 where
  pub from : (x : ℕ × ℕ) → earlier ≡ Some x → (found ≡ Some x) ⊎ (user ≡ x)
  pub below : (x : ℕ × ℕ) → found ≡ Some x → IsAtMost earlier x
  pub least : IsAtMost earlier user

-- the first one of what was found, and of the users of those needs among these that are missed
pub record Judged (f : Function) (among : Need → Type 0) (found first : Option (ℕ × ℕ)) : Type 0 where
  pub from : (x : ℕ × ℕ) → first ≡ Some x → (found ≡ Some x) ⊎ ((u : Need) × among u × IsMissed f u × (u.user ≡ x))
  pub below : (x : ℕ × ℕ) → found ≡ Some x → IsAtMost first x
  pub least : (u : Need) → among u → IsMissed f u → IsAtMost first u.user

-- what is known of a function before sets flow
pub record IsSketch (f : Function) (sketch : Sketch) : Type 0 where
  pub width : vec_len sketch.next ≡ length f.blocks
  pub edges : (a : ℕ) → a < length f.blocks → row sketch.next.items a ≡ successors f a
  pub parameters : AreParameters f.params sketch.parameters.items
  pub book : IsNotebook f sketch.book (length f.blocks) 0

-- a need stands in one of the first n rows
abbrev pub InRows : List (Vec Need Global) → ℕ → Need → Type 0
InRows rows n u = (j : ℕ) × (j < n) × Contains (row rows j) u
