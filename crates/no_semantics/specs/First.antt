-- The first bytes of a program's constants and globals (LLVM Language Reference, "Constants", "Data Layout").
use Rattle.std.specs.Prelude.{ℕ, ◌+◌, ◌-◌, ◌%◌, ◌^◌, List, [], ◌∷◌, ◌++◌, length, map, replicate, slice_get, Option, Some, None}
use Rattle.std.specs.List.{concat}
use Rattle.no_ir.specs.declared.types.Ty.{Ty, out-Ty}
use Rattle.no_ir.specs.declared.types.Ty.TheOpen.{Ty-F}
use Rattle.no_ir.specs.declared.types.Ty.TheVariants as ty
use Rattle.no_ir.specs.declared.constant.Const.{Const}
use Rattle.no_ir.specs.declared.constant.Const.TheOpen.{Const-F}
use Rattle.no_ir.specs.declared.constant.Const.TheFolds.{fold-Const}
use Rattle.no_ir.specs.declared.function.GlobalVar.{GlobalVar}
use Rattle.no_layout.specs.Memory.{written}
use Rattle.no_layout.specs.Orders.{bytes_of}
use Rattle.no_layout.specs.Sizes.{type_size, type_stride, offset_of}
use Rattle.no_semantics.specs.Accepted.{Accepted}
use Rattle.no_semantics.specs.Image.{addresses_of, regions_of}
use Rattle.no_semantics.specs.Values.{Program, width_of, bytes_of_width, place_address}
use Rattle.no_semantics.specs.Indices.{resolved}

-- the program that an accepted module is, with its image
abbrev pub program_of : Accepted → Program
program_of a = record {
  «module» = a.«module»;
  layout = a.layout;
  sizes = a.sizes;
  addresses = addresses_of a.layout a.sizes a.«module».globals;
  regions = regions_of a.layout a.sizes a.«module».globals;
  role = a.role;
}

-- bytes, and zeros behind them up to a length
abbrev pub padded : ℕ → List ℕ → List ℕ
padded n bytes = bytes ++ replicate (n - length bytes) 0

-- the type of the elements of an array, by its outermost layer; i8 where it is none
abbrev pub element_step : Ty-F Ty → Ty
element_step (Ty-F.Array count element) = element
element_step _ = ty.Int 8

-- the type of the elements of an array type, which may be a named one
abbrev pub element_of : Program → Ty → Ty
element_of p t = element_step (out-Ty (resolved p.«module».types t))

-- the type of a field, i8 where there is none
abbrev pub field_or : Option Ty → Ty
field_or None = ty.Int 8
field_or (Some t) = t

-- the type of field k of a struct, by its outermost layer; i8 where there is none
abbrev pub field_step : Ty-F Ty → ℕ → Ty
field_step (Ty-F.Struct packed fields) k = field_or (slice_get fields k)
field_step _ k = ty.Int 8

-- elements stand at the stride of their type
abbrev pub elements_bytes : ℕ → List (List ℕ) → List ℕ
elements_bytes stride elements = concat (map (padded stride) elements)

-- fields stand at their offsets, after what stands before them, and zeros fill the gaps
abbrev pub fields_bytes : Program → Ty → ℕ → List ℕ → List (Ty → List ℕ) → List ℕ
fields_bytes p t k before [] = padded (type_size p.layout p.sizes t) before
fields_bytes p t k before (field ∷ more) =
    fields_bytes p t (k + 1) (padded (offset_of p.layout p.sizes t k) before ++ field (field_step (out-Ty t) k)) more

-- a number at the size of an integer type or a pointer, in the layout's order
abbrev pub number_bytes : Program → Ty → ℕ → List ℕ
number_bytes p t n = bytes_of p.layout.big (bytes_of_width (width_of p.layout t)) (n % 2 ^ width_of p.layout t)

-- the bytes of a constant of a type, from those of its parts at their types
abbrev pub bytes_step : Program → Const-F (Ty → List ℕ) → Ty → List ℕ
bytes_step p Const-F.Zero t = replicate (type_size p.layout p.sizes t) 0
bytes_step p (Const-F.Int n) t = number_bytes p t n
bytes_step p (Const-F.Str text) t = elements_bytes (type_stride p.layout p.sizes (element_of p t)) (map (λ (b : ℕ). b ∷ []) text)
bytes_step p (Const-F.Array elements) t = elements_bytes (type_stride p.layout p.sizes (element_of p t)) (map (λ (c : Ty → List ℕ). c (element_of p t)) elements)
bytes_step p (Const-F.Struct fields) t = fields_bytes p (resolved p.«module».types t) 0 [] fields
bytes_step p (Const-F.Address place) t = number_bytes p t (place_address p place)
bytes_step p (Const-F.AddressAsInt place) t = number_bytes p t (place_address p place)
bytes_step p (Const-F.IntAsPtr n) t = number_bytes p t n

-- the bytes of a constant of a type
abbrev pub constant_bytes : Program → Const → Ty → List ℕ
constant_bytes p = fold-Const (Ty → List ℕ) (bytes_step p)

-- the bytes of each global at its address; all others are 0
abbrev pub first_of : Program → List ℕ → List GlobalVar → ℕ → ℕ
first_of p (at ∷ others) (g ∷ more) = written (first_of p others more) at (constant_bytes p g.init g.ty)
first_of p [] globals = λ a. 0
first_of p (at ∷ others) [] = λ a. 0

-- the first byte at each address
abbrev pub first_byte : Accepted → ℕ → ℕ
first_byte a = first_of (program_of a) (program_of a).addresses a.«module».globals
