use Rattle.std.proofs.Common.{drop, ◌≡◌}
use Rattle.no_verify_structure.specs.Ending.{function_ending}
use Rattle.no_verify_structure.specs.Finding.{first_at}
use Rattle.no_verify_structure.proofs.ending.ending_fault_in.Given as goal

abbrev pub invariant-loop-k : goal.invariant-loop-k
invariant-loop-k l = first_at (λ k. function_ending) 0 l.program.functions ≡ first_at (λ k. function_ending) l.k (drop l.k l.program.functions)
