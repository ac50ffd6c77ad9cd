use Rattle.std.proofs.Common.{drop, ◌≡◌}
use Rattle.no_verify_structure.specs.Finding.{first_at}
use Rattle.no_verify_structure.specs.Phis.{function_phis}
use Rattle.no_verify_structure.proofs.phis.phis_fault.Given as goal

abbrev pub invariant-loop-k : goal.invariant-loop-k
invariant-loop-k l = first_at (λ k. function_phis) 0 l.program.functions ≡ first_at (λ k. function_phis) l.k (drop l.k l.program.functions)
