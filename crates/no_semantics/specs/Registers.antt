-- What registers hold, and what operands are as numbers (LLVM Language Reference, "Identifiers", "Constants").
use Rattle.std.specs.Prelude.{ℕ, ◌%◌, ◌^◌, nat_lt, if◌then◌else◌, List, [], ◌∷◌, slice_get, Option, Some, None, option_map}
use Rattle.no_ir.specs.declared.types.Ty.{Ty}
use Rattle.no_ir.specs.declared.constant.Const.{Const}
use Rattle.no_ir.specs.declared.constant.Const.TheVariants as const
use Rattle.no_ir.specs.declared.instruction.Operand.{Operand}
use Rattle.no_ir.specs.declared.instruction.Operand.TheVariants as operand'
use Rattle.no_semantics.specs.Values.{Program, place_address, width_of, extended}
pub use Rattle.no_sound.specs.Blocks.{given}

-- ---- parts that may be missing

-- a part in front of others, where none is missing
abbrev pub with_front : {A : Type 0} → Option A → Option (List A) → Option (List A)
with_front (Some x) (Some xs) = Some (x ∷ xs)
with_front _ _ = None

-- all parts of a list, where none is missing
abbrev pub all_given : {A : Type 0} → List (Option A) → Option (List A)
all_given [] = Some []
all_given (o ∷ os) = with_front o (all_given os)

-- ---- registers

-- what each register of a function holds since it was assigned, by its number
abbrev pub Registers : Type 0
Registers = List (Option ℕ)

-- a number of w bits, and none where it is not below 2 ^ w
abbrev pub below : ℕ → ℕ → Option ℕ
below w n = if nat_lt n (2 ^ w) then Some n else None

-- what a register holds as a number of w bits, where it was assigned
abbrev pub held_below : ℕ → Option (Option ℕ) → Option ℕ
held_below w (Some (Some n)) = below w n
held_below w _ = None

-- a register as a number of w bits: none where it was not assigned, where its number has more bits, and where the function does not have it
abbrev pub register : ℕ → Registers → ℕ → Option ℕ
register w registers r = held_below w (slice_get registers r)

-- ---- operands

-- a constant of an integer type or of ptr: strings, arrays and structs are none
abbrev pub constant_number : Program → Const → Option ℕ
constant_number p const.Zero = Some 0
constant_number p (const.Int n) = Some n
constant_number p (const.Address place) = Some (place_address p place)
constant_number p (const.AddressAsInt place) = Some (place_address p place)
constant_number p (const.IntAsPtr n) = Some n
constant_number p _ = None

-- an operand as a number of w bits; what a constant states is taken modulo 2 ^ w
abbrev pub operand : Program → ℕ → Registers → Operand → Option ℕ
operand p w registers (operand'.Reg r) = register w registers r
operand p w registers (operand'.Const c) = option_map (λ n. n % 2 ^ w) (constant_number p c)

-- an operand of an integer type or of ptr
abbrev pub operand_of : Program → Registers → Ty → Operand → Option ℕ
operand_of p registers t a = operand p (width_of p.layout t) registers a

-- an operand that is a pointer
abbrev pub pointer_of : Program → Registers → Operand → Option ℕ
pointer_of p registers a = operand p p.layout.pointer registers a

-- an index as a number of the pointer's width, with its sign
abbrev pub index_of : Program → Registers → ℕ × Operand → Option ℕ
index_of p registers index = option_map (extended index.0 p.layout.pointer) (operand p index.0 registers index.1)

-- an argument, which states its type
abbrev pub argument_of : Program → Registers → Ty × Operand → Option ℕ
argument_of p registers argument = operand_of p registers argument.0 argument.1
