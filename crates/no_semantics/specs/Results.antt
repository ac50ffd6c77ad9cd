-- What instructions give as values: a definition for each (docs/LANGUAGE.md, "Instructions").
use Rattle.std.specs.Prelude.{ℕ, ◌+◌, ◌-◌, ◌*◌, ◌/◌, ◌%◌, ◌^◌, Bool, true, false, ◌==◌, nat_lt, if◌then◌else◌, List, map, Option, Some, None, Result, Ok, Err}
use Rattle.no_ir.specs.declared.types.Ty.{Ty}
use Rattle.no_ir.specs.declared.ending.Trap.{Trap}
use Rattle.no_ir.specs.declared.ending.Trap.TheVariants.{StackOverflow}
use Rattle.no_ir.specs.declared.instruction.BinOp.{BinOp}
use Rattle.no_ir.specs.declared.instruction.CastOp.{CastOp}
use Rattle.no_ir.specs.declared.instruction.Pred.{Pred}
use Rattle.no_ir.specs.declared.instruction.Operand.{Operand}
use Rattle.no_eval.specs.Binary.{binary_of}
use Rattle.no_eval.specs.Compare.{compare_of}
use Rattle.no_eval.specs.Cast.{cast_of}
use Rattle.no_layout.specs.Memory.{refusal, read_number, stack_start}
use Rattle.no_layout.specs.Sizes.{type_align, type_stride}
use Rattle.no_semantics.specs.Image.{stated_or}
use Rattle.no_semantics.specs.Indices.{path_offset}
use Rattle.no_semantics.specs.Registers.{Registers, given, all_given, operand, operand_of, pointer_of, index_of}
use Rattle.no_semantics.specs.Values.{Program, width_of, bytes_of_width}

-- a number, or the trap that comes in its place; nothing where an operand has no number
pub data Valued : Type 0 where
  Number : (number : ℕ) → Valued
  Traps : (trap : Trap) → Valued
  NoValue : Valued

-- what comes of an operand's number
abbrev pub reading : Option ℕ → (ℕ → Valued) → Valued
reading a make = given NoValue a make

-- what a binary operator gives: its number, or a trap
abbrev pub valued : Result ℕ Trap → Valued
valued (Ok n) = Number n
valued (Err t) = Traps t

-- a truth value as a number of one bit
abbrev pub bit : Bool → ℕ
bit true = 1
bit false = 0

-- ---- numbers

-- a binary operator on numbers of w bits (LLVM Language Reference, "Binary Operations", "Bitwise Binary Operations")
unfoldable pub binary_value : Program → Registers → BinOp → ℕ → Operand → Operand → Valued
binary_value p registers o w a b = reading (operand p w registers a) (λ x. reading (operand p w registers b) (λ y. valued (binary_of o w x y)))

-- a comparison; pointers are compared as numbers of their width ("icmp Instruction")
unfoldable pub compare_value : Program → Registers → Pred → Ty → Operand → Operand → Valued
compare_value p registers o t a b =
    reading (operand_of p registers t a) (λ x. reading (operand_of p registers t b) (λ y. Number (bit (compare_of o (width_of p.layout t) x y))))

-- a conversion ("Conversion Operations")
unfoldable pub cast_value : Program → Registers → CastOp → Ty → Operand → Ty → Valued
cast_value p registers o t a u = reading (operand_of p registers t a) (λ x. Number (cast_of o (width_of p.layout t) (width_of p.layout u) x))

-- the operand itself ("freeze Instruction")
unfoldable pub freeze_value : Program → Registers → Ty → Operand → Valued
freeze_value p registers t a = reading (operand_of p registers t a) Number

-- the first where the condition is 1, and else the second ("select Instruction")
unfoldable pub select_value : Program → Registers → Operand → Ty → Operand → Operand → Valued
select_value p registers c t a b =
    reading (operand p 1 registers c) (λ z. reading (operand_of p registers t a) (λ x. reading (operand_of p registers t b) (λ y. Number (if z == 1 then x else y))))

-- an address and the offsets of the indices, modulo 2 ^ P ("getelementptr Instruction")
abbrev pub address_after : Program → Ty → ℕ → List ℕ → ℕ
address_after p t at indices = (at + path_offset p.layout p.sizes p.«module».types t indices) % 2 ^ p.layout.pointer

-- the address that indices lead to from a pointer ("getelementptr Instruction")
unfoldable pub gep_value : Program → Registers → Ty → Operand → List (ℕ × Operand) → Valued
gep_value p registers t a indices =
    reading (pointer_of p registers a) (λ at. given NoValue (all_given (map (index_of p registers) indices)) (λ ns. Number (address_after p t at ns)))

-- ---- the stack

-- a place on the stack, and none below it
abbrev pub in_stack : ℕ → Option ℕ
in_stack place = if nat_lt place stack_start then None else Some place

-- the stack pointer less so many bytes, and then down to a multiple of the alignment
abbrev pub lowered : ℕ → ℕ → ℕ → Option ℕ
lowered sp bytes align = if nat_lt sp bytes then None else in_stack ((sp - bytes) / align * align)

-- a place on the stack as a value; without one the stack overflows
abbrev pub stack_place : Option ℕ → Valued
stack_place None = Traps StackOverflow
stack_place (Some place) = Number place

-- a stated count, or one
abbrev pub count_of : Program → Registers → Option (ℕ × Operand) → Option ℕ
count_of p registers None = Some 1
count_of p registers (Some count) = operand p count.0 registers count.1

-- room on the stack for so many values of a type ("alloca Instruction")
unfoldable pub alloca_value : Program → Registers → ℕ → Ty → Option (ℕ × Operand) → Option ℕ → Valued
alloca_value p registers sp t count align =
    reading (count_of p registers count) (λ n. stack_place (lowered sp (n * type_stride p.layout p.sizes t) (stated_or align (type_align p.layout p.sizes t))))

-- ---- memory

-- how many bytes a value of a type takes in memory
abbrev pub bytes_of_type : Program → Ty → ℕ
bytes_of_type p t = bytes_of_width (width_of p.layout t)

-- the low w bits of the number that stands at an address, in the layout's order
abbrev pub loaded : Program → (ℕ → ℕ) → ℕ → ℕ → Option Trap → Valued
loaded p byte w at (Some t) = Traps t
loaded p byte w at None = Number (read_number p.layout.big byte at (bytes_of_width w) % 2 ^ w)

-- what stands at an address ("load Instruction")
unfoldable pub load_value : Program → Registers → (ℕ → ℕ) → Ty → Operand → Valued
load_value p registers byte t a =
    reading (pointer_of p registers a) (λ at. loaded p byte (width_of p.layout t) at (refusal p.regions false at (bytes_of_type p t)))
