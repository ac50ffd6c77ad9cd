-- Bytes that an instruction reads or writes, and the pages that they lie on.
use Rattle.std.specs.Prelude.{◌≡◌, ℕ, ◌+◌, ◌-◌, ◌<◌, ◌≤◌, Bool, true, false, ◌==◌, ◌⊎◌, if◌then◌else◌, List, [], ◌∷◌}
use Rattle.no_layout.specs.Memory.{page_of}

-- so many bytes from an address on
pub record Span : Type 0 where
  pub at : ℕ
  pub len : ℕ

-- no bytes are named where there are none
abbrev pub span_of : ℕ → ℕ → List Span
span_of at n = if n == 0 then [] else record { at = at; len = n } ∷ []

-- ---- pages

-- a page has one of the bytes
abbrev pub Touches : List Span → ℕ → Type 0
Touches [] p = ⊥
Touches (s ∷ ss) p = ((0 < s.len) × (page_of s.at ≤ p) × (p ≤ page_of (s.at + s.len - 1))) ⊎ Touches ss p

-- each page of the bytes is held
abbrev pub AreHeld : (ℕ → Bool) → List Span → Type 0
AreHeld held spans = (p : ℕ) → Touches spans p → held p ≡ true

-- of the pages of the bytes this is the lowest that is absent
pub record IsLowestAbsent (held : ℕ → Bool) (spans : List Span) (page : ℕ) : Type 0 where
  pub touched : Touches spans page
  pub absent : held page ≡ false
  pub lowest : (p : ℕ) → Touches spans p → held p ≡ false → page ≤ p
