-- Numbers of a program: widths of types, addresses, constants, and what operands are in a frame.
use Rattle.std.specs.Prelude.{ℕ, ◌+◌, ◌/◌, ◌%◌, ◌^◌, ◌==◌, nat_lt, if◌then◌else◌, List, map, slice_index}
use Rattle.no_ir.specs.declared.types.Ty.{Ty, out-Ty}
use Rattle.no_ir.specs.declared.types.Ty.TheOpen.{Ty-F}
use Rattle.no_ir.specs.declared.constant.Const.{Const}
use Rattle.no_ir.specs.declared.constant.Const.TheVariants as const
use Rattle.no_ir.specs.declared.constant.Place.{Place}
use Rattle.no_ir.specs.declared.constant.Symbol.{Symbol}
use Rattle.no_ir.specs.declared.constant.Symbol.TheVariants as symbol
use Rattle.no_ir.specs.declared.instruction.CastOp.TheVariants as cast
use Rattle.no_ir.specs.declared.instruction.Operand.{Operand}
use Rattle.no_ir.specs.declared.instruction.Operand.TheVariants as operand
use Rattle.no_ir.specs.declared.function.Module.{Module}
use Rattle.no_ir.specs.declared.function.Role.{Role}
use Rattle.no_eval.specs.Cast.{cast_of}
use Rattle.no_eval.specs.Numbers.{modulo}
use Rattle.no_layout.specs.Memory.{function_address}
use Rattle.no_layout.specs.declared.extent.Extent.{Extent}
use Rattle.no_layout.specs.declared.layout.Layout.{Layout}
use Rattle.no_layout.specs.declared.memory.Regions.{Regions}
use Rattle.no_semantics.specs.Indices.{path_offset}
pub use Rattle.no_sound.specs.Widths.{width_of, width_step}

-- what stays the same while a program runs: its module, layout and sizes, the address of each global, the ends of its constants and globals, and its role
pub record Program : Type 0 where
  pub «module» : Module
  pub layout : Layout
  pub sizes : List Extent
  pub addresses : List ℕ
  pub regions : Regions
  pub role : Role

-- ---- widths

-- how many bytes it has in memory; i1 has a whole one
abbrev pub bytes_of_width : ℕ → ℕ
bytes_of_width w = if w == 1 then 1 else w / 8

-- a number of w bits at P bits, with its sign where P is more
abbrev pub extended : ℕ → ℕ → ℕ → ℕ
extended w P n = if nat_lt w P then cast_of cast.SExt w P n else n % 2 ^ P

-- ---- constants

-- the address of a global or a function
abbrev pub symbol_number : List ℕ → Symbol → ℕ
symbol_number addresses (symbol.Global k) = slice_index addresses k
symbol_number addresses (symbol.Function k) = function_address k
symbol_number addresses _ = 0

-- the address of a place: a bare symbol, or a constant getelementptr
abbrev pub place_number : Layout → List Extent → List (List ℕ × Ty) → List ℕ → Place → ℕ
place_number l sizes types addresses place =
    (symbol_number addresses place.symbol + path_offset l sizes types place.base (map (modulo l.pointer) place.indices)) % 2 ^ l.pointer

-- the address of a place of a program's module
abbrev pub place_address : Program → Place → ℕ
place_address p place = place_number p.layout p.sizes p.«module».types p.addresses place

-- a constant of an integer type or a pointer as a number
abbrev pub constant : Program → Const → ℕ
constant p (const.Int n) = n
constant p (const.Address place) = place_address p place
constant p (const.AddressAsInt place) = place_address p place
constant p (const.IntAsPtr n) = n
constant p _ = 0

-- ---- operands

-- what a register holds, or the number that a constant is, before it is cut to a width
abbrev pub operand_number : Program → List ℕ → Operand → ℕ
operand_number p registers (operand.Reg r) = slice_index registers r
operand_number p registers (operand.Const c) = constant p c

-- an operand as a number of w bits
abbrev pub value : Program → ℕ → List ℕ → Operand → ℕ
value p w registers a = operand_number p registers a % 2 ^ w

-- an index of w bits as a number of the pointer's width
abbrev pub index_value : Program → List ℕ → ℕ × Operand → ℕ
index_value p registers index = extended index.0 p.layout.pointer (value p index.0 registers index.1)
