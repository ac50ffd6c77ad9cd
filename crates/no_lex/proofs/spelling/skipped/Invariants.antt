use Rattle.std.proofs.Common.{◌≡◌, ◌+◌, drop, false}
use Rattle.no_lex.specs.Tokens.{skipped}
use Rattle.no_lex.proofs.spelling.skipped.Given as goal

abbrev pub invariant-loop-byte : goal.invariant-loop-byte
invariant-loop-byte l = record { index : l.count ≡ l.byte-index; rest : skipped false l.bytes ≡ l.count + skipped l.inside (drop l.byte-index l.bytes) }
