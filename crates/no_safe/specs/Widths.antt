-- How many bits each register of a function has, by the type of what defines it.
use Rattle.std.specs.Prelude.{ℕ, Option, Some, None}
use Rattle.no_ir.specs.declared.function.Function.{Function}
use Rattle.no_layout.specs.declared.layout.Layout.{Layout}
use Rattle.no_module.specs.declared.scalar.Scalar.{Scalar}
use Rattle.no_module.specs.declared.scalar.Scalar.TheVariants as scalar
use Rattle.no_verify_types.specs.Registers.{register_types, type_at}

-- an integer has the bits of its type, and a pointer those of the layout
abbrev pub width_of_scalar : Layout → Scalar → ℕ
width_of_scalar l (scalar.Int w) = w
width_of_scalar l scalar.Ptr = l.pointer

-- where there is no type there is no width
abbrev pub width_of_type : Layout → Option Scalar → Option ℕ
width_of_type l None = None
width_of_type l (Some s) = Some (width_of_scalar l s)

-- the width of register r of a function, none where its first definition gives no value
abbrev pub width_of_register : Layout → Function → ℕ → Option ℕ
width_of_register l g r = width_of_type l (type_at (register_types g) r)
