-- Types and globals that have room.
use Rattle.std.specs.Prelude.{◌≡◌, ◌<◌, ◌≤◌, ℕ, Bool, nat_le, List, Option, Some, None}
use Rattle.std.specs.List.{list_all}
use Rattle.no_ir.specs.declared.types.Ty.{Ty}
use Rattle.no_ir.specs.declared.function.GlobalVar.{GlobalVar}
use Rattle.no_layout.specs.Memory.{globals_limit}
use Rattle.no_layout.specs.Sizes.{measure_of}
use Rattle.no_layout.specs.declared.extent.Extent.{Extent}
use Rattle.no_layout.specs.declared.layout.Layout.{Layout}
use Rattle.no_room.specs.Ends.{regions_of}

-- the type and each type inside it has at most 0x1000_0000 bytes
abbrev pub type_fits : Layout → List Extent → Ty → Bool
type_fits l sizes t = (measure_of l sizes t).fits

-- the types of globals fit
abbrev pub have_types : Layout → List Extent → List GlobalVar → Bool
have_types l sizes globals = list_all (λ (g : GlobalVar). type_fits l sizes g.ty) globals

-- the globals end at 0x0200_0000 at most, with none of them the place where they would begin
abbrev pub have_room : Layout → List Extent → List GlobalVar → Bool
have_room l sizes globals = nat_le (regions_of l sizes globals).globals_end globals_limit

-- the end of globals, where it is at most the limit
abbrev pub IsEnd : Option ℕ → ℕ → Type 0
IsEnd None end = globals_limit < end
IsEnd (Some e) end = (e ≡ end) × (end ≤ globals_limit)
