-- A text that is read byte by byte.
use Rattle.std.specs.Prelude.{◌≡◌, ℕ, ◌+◌, ◌/◌, ◌<◌, ◌≤◌, Bool, true, false, List, [], ◌∷◌, ◌++◌, length}
use Rattle.no_layout.specs.Memory.{page_of, read_bytes}
use Rattle.no_lib.specs.declared.text.Text.{Text}
use Rattle.no_lib.specs.declared.text.Text.TheVariants as text
use Rattle.no_lib.specs.declared.answer.LibAnswer.{LibAnswer}
use Rattle.no_lib.specs.declared.answer.LibAnswer.TheVariants as answer

-- so many bytes from an address on are there, and none of them is 0
pub record Reading (held : ℕ → Bool) (byte : ℕ → ℕ) (at n : ℕ) : Type 0 where
  pub there : (k : ℕ) → k < n → held (page_of (at + k)) ≡ true
  pub some : (k : ℕ) → k < n → byte (at + k) ≡ 0 → ⊥

-- a text in front of the first 0
pub record IsWhole (held : ℕ → Bool) (byte : ℕ → ℕ) (at room : ℕ) (bytes : List ℕ) : Type 0 where
  pub within : length bytes < room
  pub read : Reading held byte at (length bytes)
  pub same : bytes ≡ read_bytes byte at (length bytes)
  pub there : held (page_of (at + length bytes)) ≡ true
  pub last : byte (at + length bytes) ≡ 0

-- the first page that is absent
pub record IsMissing (held : ℕ → Bool) (byte : ℕ → ℕ) (at room page : ℕ) : Type 0 where
  pub n : ℕ
  pub within : n < room
  pub read : Reading held byte at n
  pub absent : held page ≡ false
  pub place : page ≡ page_of (at + n)

-- what reading so many bytes at most found
abbrev pub IsText : Text → (ℕ → Bool) → (ℕ → ℕ) → ℕ → ℕ → Type 0
IsText (text.Whole v) held byte at room = IsWhole held byte at room v.items
IsText text.Endless held byte at room = Reading held byte at room
IsText (text.Missing page) held byte at room = IsMissing held byte at room page
IsText text.NoMemory held byte at room = Unit {0}

-- what writing a text and a line feed answers: its cost, where that is no more than is left
abbrev pub IsSpelled : LibAnswer → List ℕ → ℕ → List ℕ → List ℕ → Type 0
IsSpelled (answer.Value v cost) bytes left old new = (v ≡ 0) × (cost ≡ 1 + length bytes / 64) × (cost ≤ left) × (new ≡ old ++ (bytes ++ 10 ∷ []))
IsSpelled answer.Over bytes left old new = (left < 1 + length bytes / 64) × (new ≡ old)
IsSpelled answer.NoMemory bytes left old new = new ≡ old
IsSpelled _ bytes left old new = ⊥
