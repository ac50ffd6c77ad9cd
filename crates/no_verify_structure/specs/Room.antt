-- Room for globals and functions in memory (docs/FORMATS.md, "Memory map").
use Rattle.std.specs.Prelude.{ℕ, ◌&&◌, nat_le, List, length, Option, None}
use Rattle.no_ir.specs.declared.function.Module.{Module}
use Rattle.no_layout.specs.declared.extent.Extent.{Extent}
use Rattle.no_layout.specs.declared.layout.Layout.{Layout}
use Rattle.no_room.specs.Fits.{have_room}
use Rattle.no_verify_types.specs.declared.place.FaultPlace.{FaultPlace}
use Rattle.no_verify_structure.specs.Finding.{unless_whole}

-- the globals end at 0x0200_0000 at most, with none of them the place where they would begin, and there are 65,536 functions at most
abbrev pub room_fault_of : Layout → List Extent → Module → Option FaultPlace
room_fault_of l sizes m = unless_whole (have_room l sizes m.globals && nat_le (length m.functions) 65536) None
