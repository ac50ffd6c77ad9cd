-- Images: pieces of bytes over zeros.
use Rattle.std.specs.Prelude.{◌≡◌, ℕ, false, List, [], ◌∷◌, length, None}
use Rattle.no_layout.specs.Memory.{AreFormed, refusal, written}
use Rattle.no_layout.specs.declared.memory.Regions.{Regions}
use Rattle.no_semantics.specs.Accepted.{Accepted}
use Rattle.no_semantics.specs.First.{first_byte, program_of}
use Rattle.no_semantics.specs.declared.image.Image.{Image}

-- a memory with the bytes of pieces, each at its address
abbrev pub over : List (ℕ × List ℕ) → (ℕ → ℕ) → ℕ → ℕ
over [] byte = byte
over (piece ∷ more) byte = written (over more byte) piece.0 piece.1

-- a memory of zeros with them
abbrev pub placed : List (ℕ × List ℕ) → ℕ → ℕ
placed pieces = over pieces (λ a. 0)

-- n bytes from an address on lie in one region
abbrev pub IsInRegion : Regions → ℕ → ℕ → Type 0
IsInRegion r at n = refusal r false at n ≡ None

-- each piece lies in one region
abbrev pub AreInside : Regions → List (ℕ × List ℕ) → Type 0
AreInside r [] = Unit {0}
AreInside r (piece ∷ more) = IsInRegion r piece.0 (length piece.1) × AreInside r more

-- the first memory of an accepted module
pub record IsImage (a : Accepted) (i : Image) : Type 0 where
  pub addresses : i.addresses ≡ (program_of a).addresses
  pub regions : i.regions ≡ (program_of a).regions
  pub bytes : placed i.pieces ≡ first_byte a
  pub inside : AreInside i.regions i.pieces
  pub formed : AreFormed i.regions
