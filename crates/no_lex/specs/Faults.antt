-- The numbers of the faults of tokens.
use Rattle.std.specs.Prelude.{ℕ}
use Rattle.no_lex.specs.declared.fault.LexKind.{LexKind}
use Rattle.no_lex.specs.declared.fault.LexKind.TheVariants.{BadByte, OpenString, TooLong}

-- the number of a kind of fault
abbrev pub kind_number : LexKind → ℕ
kind_number BadByte = 1
kind_number OpenString = 2
kind_number TooLong = 3
