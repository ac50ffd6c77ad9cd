use Rattle.no_code.specs.Making.{PutsBlock}
use Rattle.no_code.specs.Source.{source}
use Rattle.no_code.proofs.building.block_cells.Given as goal

abbrev pub invariant-loop-k : goal.invariant-loop-k
invariant-loop-k l = PutsBlock (source l.from.program.now l.from.layout.now l.from.sizes.now l.from.addresses.now) l.g l.frame l.f l.b l.block l.k l.fn.code l.code
