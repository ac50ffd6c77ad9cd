use Rattle.std.proofs.Common.{◌≡◌, ◌≤◌, ◌+◌, length}
use Rattle.no_read_symbols.specs.Scan.{symbols_from, symbols_in}
use Rattle.no_read_symbols.proofs.symbols.symbol_names.Given as goal

abbrev pub invariant-loop-rest : goal.invariant-loop-rest
invariant-loop-rest l = record {
  so_far : symbols_from l.text l.rest l.s l.symbols ≡ symbols_in l.text l.tokens;
  rounds : l.s.rounds + length l.rest ≤ length l.tokens;
  braces : l.s.braces + length l.rest ≤ length l.tokens;
  depth : l.s.depth + length l.rest ≤ length l.tokens;
}

abbrev pub decreases-loop-rest : goal.decreases-loop-rest
decreases-loop-rest l = length l.rest
