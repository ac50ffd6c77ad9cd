use Rattle.std.proofs.Common.{◌≡◌, ◌++◌, drop}
use Rattle.no_print.specs.Names.{escaped}
use Rattle.no_print.proofs.names.put_escaped.Given as goal

abbrev pub invariant-loop-byte : goal.invariant-loop-byte
invariant-loop-byte l = l.fn.out.items ++ escaped l.bytes ≡ l.out.items ++ escaped (drop l.byte-index l.bytes)
