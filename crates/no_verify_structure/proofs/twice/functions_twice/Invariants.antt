use Rattle.std.proofs.Common.{drop, ◌≡◌}
use Rattle.no_verify_structure.specs.Finding.{first_at}
use Rattle.no_verify_structure.specs.Twice.{function_twice, names_before}
use Rattle.no_verify_structure.proofs.twice.functions_twice.Given as goal

abbrev pub invariant-loop-k : goal.invariant-loop-k
invariant-loop-k l = record { names : l.names ≡ names_before l.program l.k; rest : first_at (function_twice l.program) 0 l.program.functions ≡ first_at (function_twice l.program) l.k (drop l.k l.program.functions) }
