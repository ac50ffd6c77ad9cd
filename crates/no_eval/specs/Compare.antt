-- What each comparison of icmp says of two numbers of w bits (LLVM Language Reference, "icmp Instruction").
use Rattle.std.specs.Prelude.{ℕ, Bool, not, ◌==◌, nat_lt, nat_le, int_lt, int_le}
use Rattle.no_ir.specs.declared.instruction.Pred.{Pred}
use Rattle.no_ir.specs.declared.instruction.Pred.TheVariants as pred
use Rattle.no_eval.specs.Numbers.{signed}

-- the s comparisons are of the signed readings
abbrev pub compare_of : Pred → ℕ → ℕ → ℕ → Bool
compare_of pred.Eq w a b = a == b
compare_of pred.Ne w a b = not (a == b)
compare_of pred.Ugt w a b = nat_lt b a
compare_of pred.Uge w a b = nat_le b a
compare_of pred.Ult w a b = nat_lt a b
compare_of pred.Ule w a b = nat_le a b
compare_of pred.Sgt w a b = int_lt (signed w b) (signed w a)
compare_of pred.Sge w a b = int_le (signed w b) (signed w a)
compare_of pred.Slt w a b = int_lt (signed w a) (signed w b)
compare_of pred.Sle w a b = int_le (signed w a) (signed w b)
