use Rattle.std.proofs.Common.{drop, take, ◌≡◌}
use Rattle.no_verify_structure.specs.Finding.{first_at}
use Rattle.no_verify_structure.specs.Names.{blocks_labels}
use Rattle.no_verify_structure.specs.Twice.{block_twice, registers_before}
use Rattle.no_verify_structure.proofs.twice.blocks_twice.Given as goal

abbrev pub invariant-loop-b : goal.invariant-loop-b
invariant-loop-b l = record { registers : l.registers ≡ registers_before l.function l.b; labels : l.labels ≡ blocks_labels (take l.b l.function.blocks); rest : first_at (block_twice l.function) 0 l.function.blocks ≡ first_at (block_twice l.function) l.b (drop l.b l.function.blocks) }
