-- The first memory of a program: where its constants and globals stand, and where they end (docs/FORMATS.md, "Memory map").
use Rattle.std.specs.Prelude.{ℕ, ◌+◌, Bool, true, false, if◌then◌else◌, List, [], ◌∷◌, ◌++◌, Option, Some, None}
use Rattle.std.specs.List.{fold}
use Rattle.std.specs.Int.{next_multiple_of}
use Rattle.no_ir.specs.declared.function.GlobalVar.{GlobalVar}
use Rattle.no_layout.specs.Memory.{constants_start}
use Rattle.no_layout.specs.Sizes.{type_size, type_align}
use Rattle.no_layout.specs.declared.extent.Extent.{Extent}
use Rattle.no_layout.specs.declared.layout.Layout.{Layout}
use Rattle.no_layout.specs.declared.memory.Regions.{Regions}

-- a stated alignment replaces that of the type
abbrev pub stated_or : Option ℕ → ℕ → ℕ
stated_or (Some align) other = align
stated_or None other = other

-- the alignment of a global: the stated one, or else that of its type
abbrev pub global_align : Layout → List Extent → GlobalVar → ℕ
global_align l sizes g = stated_or g.align (type_align l sizes g.ty)

-- where a global stands that comes next behind an end
abbrev pub place_behind : Layout → List Extent → ℕ → GlobalVar → ℕ
place_behind l sizes end g = next_multiple_of end (global_align l sizes g)

-- constants and writable globals are two kinds
abbrev pub same_kind : Bool → Bool → Bool
same_kind true constant = constant
same_kind false true = false
same_kind false false = true

-- the end with one global more, which counts where it is of this kind
abbrev pub end_with : Layout → List Extent → Bool → ℕ → GlobalVar → ℕ
end_with l sizes kind end g = if same_kind kind g.constant then place_behind l sizes end g + type_size l sizes g.ty else end

-- the end of the globals of one kind, which begin at a place
abbrev pub end_of : Layout → List Extent → Bool → ℕ → List GlobalVar → ℕ
end_of l sizes kind = fold (end_with l sizes kind)

-- where the constants of a module end
abbrev pub constants_end_of : Layout → List Extent → List GlobalVar → ℕ
constants_end_of l sizes globals = end_of l sizes true constants_start globals

-- writable globals begin at the next multiple of 65,536
abbrev pub globals_start_of : Layout → List Extent → List GlobalVar → ℕ
globals_start_of l sizes globals = next_multiple_of (constants_end_of l sizes globals) 65536

-- where the constants and the writable globals of a module end
abbrev pub regions_of : Layout → List Extent → List GlobalVar → Regions
regions_of l sizes globals = record {
  constants_end = constants_end_of l sizes globals;
  globals_end = end_of l sizes false (globals_start_of l sizes globals) globals;
}

-- where the globals of a kind begin, among all globals of a module
abbrev pub start_of : Layout → List Extent → List GlobalVar → Bool → ℕ
start_of l sizes globals constant = if constant then constants_start else globals_start_of l sizes globals

-- where a global stands behind those before it
abbrev pub address_behind : Layout → List Extent → List GlobalVar → List GlobalVar → GlobalVar → ℕ
address_behind l sizes globals before g = place_behind l sizes (end_of l sizes g.constant (start_of l sizes globals g.constant) before) g

-- the addresses of globals behind those before them
abbrev pub addresses_behind : Layout → List Extent → List GlobalVar → List GlobalVar → List GlobalVar → List ℕ
addresses_behind l sizes globals before [] = []
addresses_behind l sizes globals before (g ∷ more) = address_behind l sizes globals before g ∷ addresses_behind l sizes globals (before ++ g ∷ []) more

-- the address of each global of a module, in their order
abbrev pub addresses_of : Layout → List Extent → List GlobalVar → List ℕ
addresses_of l sizes globals = addresses_behind l sizes globals [] globals
