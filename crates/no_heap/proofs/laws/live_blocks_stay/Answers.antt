use Rattle.no_heap.proofs.Placing.{placed_live, freed_live}
use Rattle.no_heap.proofs.laws.live_blocks_stay.Goals as goal

pub returns-clause-placed : goal.returns-clause-placed
returns-clause-placed c = placed_live

pub returns-clause-freed : goal.returns-clause-freed
returns-clause-freed c = freed_live
