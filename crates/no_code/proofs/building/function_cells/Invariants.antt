use Rattle.no_code.specs.Making.{PutsBlocks}
use Rattle.no_code.specs.Source.{source}
use Rattle.no_code.proofs.building.function_cells.Given as goal

abbrev pub invariant-loop-b : goal.invariant-loop-b
invariant-loop-b l = PutsBlocks (source l.from.program.now l.from.layout.now l.from.sizes.now l.from.addresses.now) l.g l.f l.base l.b l.fn.code l.code
