use Rattle.std.proofs.Common.{◌≡◌, ◌+◌, drop}
use Rattle.std.specs.List.{prefix_len}
use Rattle.no_lex.specs.Spelling.{is_name_byte}
use Rattle.no_lex.proofs.spelling.name_len.Given as goal

abbrev pub invariant-loop-byte : goal.invariant-loop-byte
invariant-loop-byte l = record { index : l.count ≡ l.byte-index; rest : prefix_len is_name_byte l.bytes ≡ l.count + prefix_len is_name_byte (drop l.byte-index l.bytes) }
