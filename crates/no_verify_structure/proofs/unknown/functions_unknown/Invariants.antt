use Rattle.std.proofs.Common.{drop, ◌≡◌}
use Rattle.no_verify_structure.specs.Finding.{first_at}
use Rattle.no_verify_structure.specs.Unknown.{function_unknown}
use Rattle.no_verify_structure.proofs.unknown.functions_unknown.Given as goal

abbrev pub invariant-loop-k : goal.invariant-loop-k
invariant-loop-k l = first_at (λ k. function_unknown l.program) 0 l.program.functions ≡ first_at (λ k. function_unknown l.program) l.k (drop l.k l.program.functions)
