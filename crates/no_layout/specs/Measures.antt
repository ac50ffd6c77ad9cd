-- Measures of numbers that are known to fit.
use Rattle.std.specs.Prelude.{◌≡◌, ◌<◌, ◌⊎◌, false, true, Option, Some, None}
use Rattle.no_layout.specs.Sizes.{Measure, size_limit}
use Rattle.no_layout.specs.Measured.{IsSmall}
use Rattle.no_layout.specs.declared.extent.Extent.{Extent}

-- the measure of a type that fits and has these numbers
abbrev pub reached : Extent → Measure
reached e = record { size = e.size; align = e.align; fits = true }

-- the numbers are those of the fields so far, or these are too large
abbrev pub IsFitting : Option Extent → Measure → Type 0
IsFitting None m = size_limit < m.size
IsFitting (Some e) m = (reached e ≡ m) × IsSmall e

-- the numbers are those of the fields, or one of these does not fit, or they end too far
abbrev pub IsEnd : Option Extent → Measure → Type 0
IsEnd None m = (m.fits ≡ false) ⊎ (size_limit < m.size)
IsEnd (Some e) m = (reached e ≡ m) × IsSmall e
