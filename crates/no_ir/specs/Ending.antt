use Rattle.std.specs.Prelude.{ℕ, List, codes}
use Rattle.no_ir.specs.declared.ending.Trap.{Trap}
use Rattle.no_ir.specs.declared.ending.Trap.TheVariants.{DivideByZero, DivideOverflow, BadAddress, ConstantWrite, Unreachable, BadFunction, StackOverflow, BadFree, Abort}

-- the number of a trap, from 1 to 9
abbrev pub trap_number : Trap → ℕ
trap_number DivideByZero = 1
trap_number DivideOverflow = 2
trap_number BadAddress = 3
trap_number ConstantWrite = 4
trap_number Unreachable = 5
trap_number BadFunction = 6
trap_number StackOverflow = 7
trap_number BadFree = 8
trap_number Abort = 9

-- the name of a trap
abbrev pub trap_name : Trap → List ℕ
trap_name DivideByZero = codes "DivideByZero"
trap_name DivideOverflow = codes "DivideOverflow"
trap_name BadAddress = codes "BadAddress"
trap_name ConstantWrite = codes "ConstantWrite"
trap_name Unreachable = codes "Unreachable"
trap_name BadFunction = codes "BadFunction"
trap_name StackOverflow = codes "StackOverflow"
trap_name BadFree = codes "BadFree"
trap_name Abort = codes "Abort"
