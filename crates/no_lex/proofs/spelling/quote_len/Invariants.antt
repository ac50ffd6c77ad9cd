use Rattle.std.proofs.Common.{◌≡◌, ◌+◌, drop}
use Rattle.std.specs.Option.{option_map}
use Rattle.no_lex.specs.Found.{quote_len}
use Rattle.no_lex.proofs.spelling.quote_len.Given as goal

abbrev pub invariant-loop-byte : goal.invariant-loop-byte
invariant-loop-byte l = record { index : l.count ≡ l.byte-index; rest : quote_len l.bytes ≡ option_map (λ n. n + l.count) (quote_len (drop l.byte-index l.bytes)) }
