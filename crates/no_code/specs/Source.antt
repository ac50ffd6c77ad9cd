-- What code is made of, and the numbers of its constants.
use Rattle.std.specs.Prelude.{ℕ, ◌<◌, ◌≤◌, ◌%◌, ◌^◌, ◌≡◌, true, List}
use Rattle.no_ir.specs.declared.constant.Const.{Const}
use Rattle.no_ir.specs.declared.constant.Const.TheVariants as const
use Rattle.no_ir.specs.declared.function.Module.{Module}
use Rattle.no_layout.specs.declared.extent.Extent.{Extent}
use Rattle.no_layout.specs.declared.layout.Layout.{Layout}
use Rattle.no_semantics.specs.Sound.{constant_fits}
use Rattle.no_semantics.specs.Values.{place_number}

-- a module, its layout, the sizes of its named types under it, and the address of each global
pub record Source : Type 0 where
  pub «module» : Module
  pub layout : Layout
  pub sizes : List Extent
  pub addresses : List ℕ

-- what code is made of, from its parts
abbrev pub source : Module → Layout → List Extent → List ℕ → Source
source m l sizes addresses = record { «module» = m; layout = l; sizes = sizes; addresses = addresses }

-- a constant of an integer type or a pointer as a number, before it is cut to its width
abbrev pub known : Source → Const → ℕ
known s (const.Int n) = n
known s (const.Address place) = place_number s.layout s.sizes s.«module».types s.addresses place
known s (const.AddressAsInt place) = place_number s.layout s.sizes s.«module».types s.addresses place
known s (const.IntAsPtr n) = n
known s _ = 0

-- a number is a constant at w bits, where the constant's place is one that the module has
abbrev pub IsKnown : Source → ℕ → Const → ℕ → Type 0
IsKnown s w c v = constant_fits s.«module» s.layout s.sizes c ≡ true → 0 < w → w ≤ 64 → v ≡ known s c % 2 ^ w
