-- What the operators give is a number of w bits.
use Rattle.std.proofs.Common.{ℕ, ◌+◌, ◌-◌, ◌*◌, ◌/◌, ◌%◌, ◌^◌, ◌<◌, ◌==◌, min, Bool, true, false, ℤ, pos, negsuc, IfOk, subst, arith}
use Rattle.std.proofs.lemmas.Nat.{pow_pos, mod_below, pow_below, and_le_l, or_lt, xor_lt}
use Rattle.std.proofs.Math.Nat.{div-le_self, mod-le}
use Rattle.std.specs.Prelude.{int_div, int_rem}
use Rattle.no_ir.specs.declared.instruction.BinOp.{BinOp}
use Rattle.no_ir.specs.declared.instruction.BinOp.TheVariants as op
use Rattle.no_ir.specs.declared.instruction.CastOp.{CastOp}
use Rattle.no_ir.specs.declared.instruction.CastOp.TheVariants as cast
use Rattle.no_eval.specs.Numbers.{signed, modulo}
use Rattle.no_eval.specs.Binary.{divided, is_overflow, divided_down, binary_of}
use Rattle.no_eval.specs.Cast.{cast_of, GoesBetween}

modulo_below : (w : ℕ) (z : ℤ) → modulo w z < 2 ^ w
modulo_below w (pos n) = mod_below n (2 ^ w) (pow_pos w)
modulo_below w (negsuc n) = omega (arith, pow_pos w)

divided_below : (by_zero overflows : Bool) (q m : ℕ) → q < m → IfOk (divided by_zero overflows q) (λ number. number < m)
divided_below true overflows q m h = tt
divided_below false true q m h = tt
divided_below false false q m h = h

pub binary_within : (op : BinOp) (w a b : ℕ) → a < 2 ^ w → b < 2 ^ w → IfOk (binary_of op w a b) (λ number. number < 2 ^ w)
binary_within op.Add w a b left right = mod_below (a + b) (2 ^ w) (pow_pos w)
binary_within op.Sub w a b left right = mod_below (a + 2 ^ w - b) (2 ^ w) (pow_pos w)
binary_within op.Mul w a b left right = mod_below (a * b) (2 ^ w) (pow_pos w)
binary_within op.UDiv w a b left right = divided_below (b == 0) false (a / b) (2 ^ w) (omega (arith, div-le_self a b))
binary_within op.URem w a b left right = divided_below (b == 0) false (a % b) (2 ^ w) (omega (arith, mod-le a b))
binary_within op.SDiv w a b left right = divided_below (b == 0) (is_overflow w a b) (modulo w (int_div (signed w a) (signed w b))) (2 ^ w) (modulo_below w (int_div (signed w a) (signed w b)))
binary_within op.SRem w a b left right = divided_below (b == 0) (is_overflow w a b) (modulo w (int_rem (signed w a) (signed w b))) (2 ^ w) (modulo_below w (int_rem (signed w a) (signed w b)))
binary_within op.Shl w a b left right = mod_below (a * 2 ^ min b w) (2 ^ w) (pow_pos w)
binary_within op.LShr w a b left right = omega (arith, div-le_self a (2 ^ min b w))
binary_within op.AShr w a b left right = modulo_below w (divided_down (signed w a) (2 ^ min b w))
binary_within op.And w a b left right = omega (arith, and_le_l a b)
binary_within op.Or w a b left right = or_lt w a b left right
binary_within op.Xor w a b left right = xor_lt w a b left right

pub cast_within : (op : CastOp) (from to a : ℕ) → GoesBetween op from to → a < 2 ^ from → cast_of op from to a < 2 ^ to
cast_within cast.Trunc from to a between within = mod_below a (2 ^ to) (pow_pos to)
cast_within cast.ZExt from to a between within = omega (arith, within, pow_below from to between)
cast_within cast.SExt from to a between within = modulo_below to (signed from a)
cast_within cast.PtrToInt from to a between within = mod_below a (2 ^ to) (pow_pos to)
cast_within cast.IntToPtr from to a between within = mod_below a (2 ^ to) (pow_pos to)
cast_within cast.BitCast from to a between within = subst (λ (k : ℕ). a < 2 ^ k) between within
