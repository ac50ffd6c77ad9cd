-- Widths of the types that instructions work on.
use Rattle.std.specs.Prelude.{ℕ}
use Rattle.no_ir.specs.declared.types.Ty.{Ty, out-Ty}
use Rattle.no_ir.specs.declared.types.Ty.TheOpen.{Ty-F}
use Rattle.no_layout.specs.declared.layout.Layout.{Layout}

-- how many bits a value of one form of a type has; what is neither integer nor pointer has none
abbrev pub width_step : Layout → Ty-F Ty → ℕ
width_step l (Ty-F.Int w) = w
width_step l Ty-F.Ptr = l.pointer
width_step l _ = 0

-- how many bits a value of an integer type or a pointer has
abbrev pub width_of : Layout → Ty → ℕ
width_of l t = width_step l (out-Ty t)
