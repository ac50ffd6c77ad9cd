use Rattle.std.proofs.Common.{drop, ◌≡◌}
use Rattle.no_verify_structure.specs.Ending.{block_ending}
use Rattle.no_verify_structure.specs.Finding.{first_at}
use Rattle.no_verify_structure.proofs.ending.function_ending.Given as goal

abbrev pub invariant-loop-b : goal.invariant-loop-b
invariant-loop-b l = first_at (λ b. block_ending) 0 l.function.blocks ≡ first_at (λ b. block_ending) l.b (drop l.b l.function.blocks)
