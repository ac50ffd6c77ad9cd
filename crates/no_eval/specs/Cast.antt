-- What each conversion gives (LLVM Language Reference, "Conversion Operations").
use Rattle.std.specs.Prelude.{ℕ, ◌≡◌, ◌%◌, ◌^◌, ◌<◌}
use Rattle.no_ir.specs.declared.instruction.CastOp.{CastOp}
use Rattle.no_ir.specs.declared.instruction.CastOp.TheVariants as cast
use Rattle.no_eval.specs.Numbers.{signed, modulo}

-- the widths that a conversion goes between: a pointer and a number of any widths, a pointer and a pointer of one
abbrev pub GoesBetween : CastOp → ℕ → ℕ → Type 0
GoesBetween cast.Trunc from to = to < from
GoesBetween cast.ZExt from to = from < to
GoesBetween cast.SExt from to = from < to
GoesBetween cast.PtrToInt from to = Unit {0}
GoesBetween cast.IntToPtr from to = Unit {0}
GoesBetween cast.BitCast from to = from ≡ to

-- the number of the second width: the same modulo its power of two, or the same signed reading
abbrev pub cast_of : CastOp → ℕ → ℕ → ℕ → ℕ
cast_of cast.Trunc from to a = a % 2 ^ to
cast_of cast.ZExt from to a = a
cast_of cast.SExt from to a = modulo to (signed from a)
cast_of cast.PtrToInt from to a = a % 2 ^ to
cast_of cast.IntToPtr from to a = a % 2 ^ to
cast_of cast.BitCast from to a = a
