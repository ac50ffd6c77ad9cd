-- Operations on values (LLVM Language Reference, "Binary Operations", "Bitwise Binary Operations", "Conversion Operations" and
-- "Other Operations").
use Rattle.std.specs.Prelude.{ℕ, List, codes, Result, Err, ok_or, if◌then◌else◌}
use Rattle.no_lex.specs.declared.token.Token.{Token}
use Rattle.no_lex.specs.declared.token.TokenKind.TheVariants.{Word}
use Rattle.no_ir.specs.declared.types.Ty.TheVariants as ty
use Rattle.no_ir.specs.declared.instruction.BinOp.{BinOp}
use Rattle.no_ir.specs.declared.instruction.BinOp.TheVariants as bin
use Rattle.no_ir.specs.declared.instruction.CastOp.{CastOp}
use Rattle.no_ir.specs.declared.instruction.CastOp.TheVariants as cast
use Rattle.no_ir.specs.declared.instruction.Pred.{Pred}
use Rattle.no_ir.specs.declared.instruction.Op.{Op}
use Rattle.no_ir.specs.declared.instruction.Op.TheVariants as op
use Rattle.no_words.specs.Words.{pred_named}
use Rattle.no_read_rules.specs.declared.fault.Flaw.{Flaw}
use Rattle.no_read_rules.specs.declared.fault.Flaw.TheVariants.{Syntax}
use Rattle.no_read_rules.specs.Rules.{Rule, plain, done, ◌>>=◌, lift}
use Rattle.no_read_rules.specs.Scope.{Meaning}
use Rattle.no_read_rules.specs.Spelled.{spelled, is_kind}
use Rattle.no_read_constants.specs.Skipped.{behind}
use Rattle.no_read_registers.specs.declared.locals.Locals.{Locals}
use Rattle.no_read_operations.specs.declared.operands.Flags.{Flags}
use Rattle.no_read_operations.specs.declared.operands.Flags.TheVariants as flags
use Rattle.no_read_operations.specs.Operands.{word, sign, some_type, this_type, a_width, an_operand, is_flag_word}

-- ---- binary operators

-- `add`, `sub`, `mul` and `shl` have `nsw` and `nuw`, divisions and right shifts `exact`, and `or` has `disjoint`
abbrev pub binary_flags : BinOp → Flags
binary_flags bin.Add = flags.Wrapping
binary_flags bin.Sub = flags.Wrapping
binary_flags bin.Mul = flags.Wrapping
binary_flags bin.Shl = flags.Wrapping
binary_flags bin.UDiv = flags.Exact
binary_flags bin.SDiv = flags.Exact
binary_flags bin.LShr = flags.Exact
binary_flags bin.AShr = flags.Exact
binary_flags bin.Or = flags.Disjoint
binary_flags _ = flags.Nothing

-- behind the flags of a binary operator: an integer type, and two operands at it
unfoldable pub binary_parts : Meaning → BinOp → Rule Locals Op
binary_parts m b = do
  width ← a_width m
  first ← an_operand m (ty.Int width)
  _ ← sign m.text (codes ",")
  second ← an_operand m (ty.Int width)
  done (op.Binary b width first second)

-- behind the word of a binary operator: flags without an effect, an integer type, and two operands at it
abbrev pub binary : Meaning → BinOp → Rule Locals Op
binary m b = behind (is_flag_word m.text (binary_flags b)) (binary_parts m b)

-- ---- conversions

-- `trunc` has `nsw` and `nuw`, `zext` has `nneg`
abbrev pub cast_flags : CastOp → Flags
cast_flags cast.Trunc = flags.Wrapping
cast_flags cast.ZExt = flags.NonNegative
cast_flags _ = flags.Nothing

-- behind the flags of a conversion: an operand with its type, the word `to`, and a type
unfoldable pub cast_parts : Meaning → CastOp → Rule Locals Op
cast_parts m c = do
  from ← some_type m
  value ← an_operand m from
  _ ← word m.text (codes "to")
  target ← some_type m
  done (op.Cast c from value target)

-- behind the word of a conversion: flags without an effect, an operand with its type, the word `to`, and a type
abbrev pub cast_form : Meaning → CastOp → Rule Locals Op
cast_form m c = behind (is_flag_word m.text (cast_flags c)) (cast_parts m c)

-- ---- comparisons

-- the predicate that a token is
abbrev pub pred_of : List ℕ → Token → Result Pred Flaw
pred_of text token = if is_kind Word token then ok_or (pred_named (spelled text token)) Syntax else Err Syntax

-- behind the flags of `icmp`: a predicate, a type, and two operands at it
unfoldable pub compare_parts : Meaning → Rule Locals Op
compare_parts m = do
  pred ← lift (plain (pred_of m.text))
  of ← some_type m
  first ← an_operand m of
  _ ← sign m.text (codes ",")
  second ← an_operand m of
  done (op.Compare pred of first second)

-- behind the word `icmp`: a flag without an effect, a predicate, a type, and two operands at it
abbrev pub compare : Meaning → Rule Locals Op
compare m = behind (is_flag_word m.text flags.SameSign) (compare_parts m)

-- ---- `freeze` and `select`

-- behind the word `freeze`: an operand with its type
unfoldable pub freeze : Meaning → Rule Locals Op
freeze m = do
  of ← some_type m
  value ← an_operand m of
  done (op.Freeze of value)

-- behind the word `select`: a bit, and two operands of one type, each with it
unfoldable pub select : Meaning → Rule Locals Op
select m = do
  _ ← word m.text (codes "i1")
  condition ← an_operand m (ty.Int 1)
  _ ← sign m.text (codes ",")
  of ← some_type m
  first ← an_operand m of
  _ ← sign m.text (codes ",")
  _ ← this_type m of
  second ← an_operand m of
  done (op.Select condition of first second)
