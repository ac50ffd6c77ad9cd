-- What an instruction reads, and the words and signs of its form.
use Rattle.std.specs.Prelude.{ℕ, Bool, false, ◌||◌, List, codes}
use Rattle.no_lex.specs.declared.token.Token.{Token}
use Rattle.no_lex.specs.declared.token.TokenKind.TheVariants.{Local}
use Rattle.no_ir.specs.declared.types.Ty.{Ty}
use Rattle.no_ir.specs.declared.types.Ty.TheVariants as ty
use Rattle.no_ir.specs.declared.instruction.Operand.{Operand}
use Rattle.no_ir.specs.declared.instruction.Operand.TheVariants as operand
use Rattle.no_read_rules.specs.Rules.{Rule, plain, done, ◌>>=◌, lift, if_next, checked}
use Rattle.no_read_rules.specs.Scope.{Meaning}
use Rattle.no_read_rules.specs.Spelled.{is_kind, is_word, a_word, a_sign}
use Rattle.no_read_rules.specs.Types.{a_type, must_be}
use Rattle.no_read_constants.specs.Places.{width_of}
use Rattle.no_read_constants.specs.Constants.{a_const}
use Rattle.no_read_registers.specs.declared.locals.Locals.{Locals}
use Rattle.no_read_registers.specs.Numbered.{a_register, a_label}
use Rattle.no_read_operations.specs.declared.operands.Flags.{Flags}
use Rattle.no_read_operations.specs.declared.operands.Flags.TheVariants as flags

-- how many brackets of types and constants may stand one in another
abbrev pub DEPTH : ℕ
DEPTH = 64

-- one word
abbrev pub word : List ℕ → List ℕ → Rule Locals (Unit {0})
word text w = lift (a_word text w)

-- one sign
abbrev pub sign : List ℕ → List ℕ → Rule Locals (Unit {0})
sign text w = lift (a_sign text w)

-- a type
abbrev pub some_type : Meaning → Rule Locals Ty
some_type m = lift (a_type m DEPTH)

-- a type that has to be this one
abbrev pub this_type : Meaning → Ty → Rule Locals (Unit {0})
this_type m want = lift (checked (a_type m DEPTH) (must_be want))

-- an integer type, of which the width counts
abbrev pub a_width : Meaning → Rule Locals ℕ
a_width m = lift (plain (width_of m.text))

-- ---- operands

-- a register that is used
unfoldable pub register_operand : List ℕ → Rule Locals Operand
register_operand text = a_register text >>= λ register. done (operand.Reg register)

-- a constant at a type
unfoldable pub const_operand : Meaning → Ty → Rule Locals Operand
const_operand m ty = lift (a_const m DEPTH ty) >>= λ constant. done (operand.Const constant)

-- a register, or a constant at a type
unfoldable pub an_operand : Meaning → Ty → Rule Locals Operand
an_operand m ty = if_next (is_kind Local) (register_operand m.text) (const_operand m ty)

-- the pointer type, and an operand at it
unfoldable pub a_pointer : Meaning → Rule Locals Operand
a_pointer m = word m.text (codes "ptr") >>= λ _. an_operand m ty.Ptr

-- a width, and an operand of it
unfoldable pub sized_operand : Meaning → Rule Locals (ℕ × Operand)
sized_operand m = do
  width ← a_width m
  value ← an_operand m (ty.Int width)
  done (width, value)

-- ---- parts that several forms have

-- a type, and an operand at it
unfoldable pub typed_operand : Meaning → Rule Locals (Ty × Operand)
typed_operand m = do
  of ← some_type m
  value ← an_operand m of
  done (of, value)

-- two operands at one type, with a comma between them
unfoldable pub two_operands : Meaning → Ty → Rule Locals (Operand × Operand)
two_operands m of = do
  first ← an_operand m of
  _ ← sign m.text (codes ",")
  second ← an_operand m of
  done (first, second)

-- a bit, as conditions are
unfoldable pub bit_operand : Meaning → Rule Locals Operand
bit_operand m = word m.text (codes "i1") >>= λ _. an_operand m (ty.Int 1)

-- behind a comma: another operand, with its type, which has to be this one
unfoldable pub comma_same : Meaning → Ty → Rule Locals Operand
comma_same m of = do
  _ ← sign m.text (codes ",")
  _ ← this_type m of
  an_operand m of

-- behind the word `to`: a type
unfoldable pub to_type : Meaning → Rule Locals Ty
to_type m = word m.text (codes "to") >>= λ _. some_type m

-- behind a comma: an address
unfoldable pub comma_pointer : Meaning → Rule Locals Operand
comma_pointer m = sign m.text (codes ",") >>= λ _. a_pointer m

-- behind a comma: a label
unfoldable pub comma_label : List ℕ → Rule Locals ℕ
comma_label text = sign text (codes ",") >>= λ _. a_label text

-- ---- words without an effect

-- whether a token is one of these flags
abbrev pub is_flag_word : List ℕ → Flags → Token → Bool
is_flag_word text flags.Nothing token = false
is_flag_word text flags.Wrapping token = is_word text (codes "nsw") token || is_word text (codes "nuw") token
is_flag_word text flags.Exact token = is_word text (codes "exact") token
is_flag_word text flags.Disjoint token = is_word text (codes "disjoint") token
is_flag_word text flags.NonNegative token = is_word text (codes "nneg") token
is_flag_word text flags.SameSign token = is_word text (codes "samesign") token
