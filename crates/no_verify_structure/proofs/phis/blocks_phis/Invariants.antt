use Rattle.std.proofs.Common.{drop, ◌≡◌}
use Rattle.no_verify_structure.specs.Finding.{first_at}
use Rattle.no_verify_structure.specs.Phis.{block_phis}
use Rattle.no_verify_structure.proofs.phis.blocks_phis.Given as goal

abbrev pub invariant-loop-b : goal.invariant-loop-b
invariant-loop-b l = first_at (block_phis l.function) 0 l.function.blocks ≡ first_at (block_phis l.function) l.b (drop l.b l.function.blocks)
