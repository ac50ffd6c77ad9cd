use Rattle.std.proofs.Common.{take}
use Rattle.no_code.specs.Making.{PutsMoves}
use Rattle.no_code.specs.Source.{source}
use Rattle.no_code.proofs.Joins.{Heads}
use Rattle.no_code.proofs.edges.moves.Given as goal

abbrev pub invariant-loop-i : goal.invariant-loop-i
invariant-loop-i l = record {
  heads : Heads l.instrs l.i-index;
  puts : PutsMoves (source l.from.program.now l.from.layout.now l.from.sizes.now l.from.addresses.now) l.g l.frame l.fn.code l.code (take l.i-index l.instrs);
}
