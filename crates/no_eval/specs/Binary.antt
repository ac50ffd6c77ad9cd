-- What each binary operator gives of two numbers of w bits (LLVM Language Reference, "Binary Operations" and "Bitwise Binary Operations").
use Rattle.std.specs.Prelude.{ℕ, ◌+◌, ◌-◌, ◌*◌, ◌/◌, ◌%◌, ◌^◌, min, ℤ, pos, negsuc, Bool, true, false, ◌&&◌, ◌==◌, bit_and, bit_or, bit_xor, int_div, int_rem, Result, Ok, Err}
use Rattle.no_ir.specs.declared.ending.Trap.{Trap}
use Rattle.no_ir.specs.declared.ending.Trap.TheVariants.{DivideByZero, DivideOverflow}
use Rattle.no_ir.specs.declared.instruction.BinOp.{BinOp}
use Rattle.no_ir.specs.declared.instruction.BinOp.TheVariants as op
use Rattle.no_eval.specs.Numbers.{signed, modulo, least, greatest}

-- ---- sums and products, modulo 2 ^ w

-- the sum of two numbers of w bits, modulo 2 ^ w
abbrev pub add_of : ℕ → ℕ → ℕ → ℕ
add_of w a b = (a + b) % 2 ^ w

-- the difference of two numbers of w bits, modulo 2 ^ w
abbrev pub sub_of : ℕ → ℕ → ℕ → ℕ
sub_of w a b = (a + 2 ^ w - b) % 2 ^ w

-- the product of two numbers of w bits, modulo 2 ^ w
abbrev pub mul_of : ℕ → ℕ → ℕ → ℕ
mul_of w a b = a * b % 2 ^ w

-- ---- division, which rounds towards zero

-- a quotient or remainder, or the trap that stands in its place: a divisor of 0 is judged first
abbrev pub divided : (by_zero overflows : Bool) → ℕ → Result ℕ Trap
divided true _ _ = Err DivideByZero
divided false true _ = Err DivideOverflow
divided false false q = Ok q

-- the least signed value by -1, whose quotient no number of w bits says
abbrev pub is_overflow : ℕ → ℕ → ℕ → Bool
is_overflow w a b = a == least w && b == greatest w

-- the unsigned quotient; a divisor of 0 traps
abbrev pub udiv_of : ℕ → ℕ → Result ℕ Trap
udiv_of a b = divided (b == 0) false (a / b)

-- the unsigned remainder; a divisor of 0 traps
abbrev pub urem_of : ℕ → ℕ → Result ℕ Trap
urem_of a b = divided (b == 0) false (a % b)

-- the signed quotient; a divisor of 0 traps, and so does a quotient that w bits don't hold
abbrev pub sdiv_of : ℕ → ℕ → ℕ → Result ℕ Trap
sdiv_of w a b = divided (b == 0) (is_overflow w a b) (modulo w (int_div (signed w a) (signed w b)))

-- the signed remainder, which has the dividend's sign; a divisor of 0 traps, and so does an overflow of the quotient
abbrev pub srem_of : ℕ → ℕ → ℕ → Result ℕ Trap
srem_of w a b = divided (b == 0) (is_overflow w a b) (modulo w (int_rem (signed w a) (signed w b)))

-- ---- shifts: one by the width or more leaves what a shift by the width leaves

-- a shift to the left, modulo 2 ^ w
abbrev pub shl_of : ℕ → ℕ → ℕ → ℕ
shl_of w a b = a * 2 ^ min b w % 2 ^ w

-- a shift to the right that brings zeros in from the left
abbrev pub lshr_of : ℕ → ℕ → ℕ → ℕ
lshr_of w a b = a / 2 ^ min b w

-- an integer divided by m, rounded down
abbrev pub divided_down : ℤ → ℕ → ℤ
divided_down (pos n) m = pos (n / m)
divided_down (negsuc n) m = negsuc (n / m)

-- the signed reading divided by a power of two, rounded down
abbrev pub ashr_of : ℕ → ℕ → ℕ → ℕ
ashr_of w a b = modulo w (divided_down (signed w a) (2 ^ min b w))

-- ---- all of them

-- what each operator gives of two numbers of w bits, or the trap that stands in its place
abbrev pub binary_of : BinOp → ℕ → ℕ → ℕ → Result ℕ Trap
binary_of op.Add w a b = Ok (add_of w a b)
binary_of op.Sub w a b = Ok (sub_of w a b)
binary_of op.Mul w a b = Ok (mul_of w a b)
binary_of op.UDiv w a b = udiv_of a b
binary_of op.URem w a b = urem_of a b
binary_of op.SDiv w a b = sdiv_of w a b
binary_of op.SRem w a b = srem_of w a b
binary_of op.Shl w a b = Ok (shl_of w a b)
binary_of op.LShr w a b = Ok (lshr_of w a b)
binary_of op.AShr w a b = Ok (ashr_of w a b)
binary_of op.And w a b = Ok (bit_and a b)
binary_of op.Or w a b = Ok (bit_or a b)
binary_of op.Xor w a b = Ok (bit_xor a b)
