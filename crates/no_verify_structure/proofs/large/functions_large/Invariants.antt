use Rattle.std.proofs.Common.{drop, ◌≡◌}
use Rattle.no_verify_structure.specs.Finding.{first_at}
use Rattle.no_verify_structure.specs.Large.{function_large}
use Rattle.no_verify_structure.proofs.large.functions_large.Given as goal

abbrev pub invariant-loop-k : goal.invariant-loop-k
invariant-loop-k l = first_at (λ k. function_large l.layout l.sizes) 0 l.program.functions ≡ first_at (λ k. function_large l.layout l.sizes) l.k (drop l.k l.program.functions)
