-- What the code's numbers say of a measure.
use Rattle.std.specs.Prelude.{◌≡◌, ◌<◌, ◌≤◌, false, true, ℕ, Option, Some, None, List, Result, Ok, Err}
use Rattle.std.specs.List.{All}
use Rattle.no_ir.specs.declared.types.Ty.{Ty}
use Rattle.no_layout.specs.Sizes.{AreSizes, IsTooLarge, Measure, size_limit}
use Rattle.no_layout.specs.declared.layout.Layout.{Layout}
use Rattle.no_layout.specs.declared.sizes.SizesFault.{SizesFault}
use Rattle.no_layout.specs.declared.sizes.SizesFault.TheVariants.{NoMemory, TooLarge}
use Rattle.no_layout.specs.declared.extent.Extent.{Extent}

-- at most `size_limit` bytes, aligned to 1 to 8 bytes
pub record IsSmall (e : Extent) : Type 0 where
  pub size : e.size ≤ size_limit
  pub align : 0 < e.align
  pub align_most : e.align ≤ 8

-- the numbers of all named types are small
abbrev pub AreSmall : List Extent → Type 0
AreSmall = All IsSmall

-- the numbers are those of a measure that fits
pub record Agrees (e : Extent) (m : Measure) : Type 0 where
  pub size : e.size ≡ m.size
  pub align : e.align ≡ m.align
  pub fits : m.fits ≡ true
  pub small : IsSmall e

-- what measuring gives: the numbers of a measure that fits, or none of one that does not
abbrev pub IsMeasured : Option Extent → Measure → Type 0
IsMeasured None m = m.fits ≡ false
IsMeasured (Some e) m = Agrees e m

-- what the sizes of a module's types are, or why there are none
abbrev pub IsAnswer : Layout → List (List ℕ × Ty) → Result (List Extent) SizesFault → Type 0
IsAnswer l types (Ok sizes) = AreSizes l types sizes
IsAnswer l types (Err (TooLarge k)) = IsTooLarge l types k
IsAnswer l types (Err NoMemory) = Unit {0}
