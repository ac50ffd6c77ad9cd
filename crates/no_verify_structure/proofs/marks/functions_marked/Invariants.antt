use Rattle.std.proofs.Common.{drop, take, ◌≡◌}
use Rattle.no_verify_structure.specs.Finding.{first_at}
use Rattle.no_verify_structure.specs.Marks.{addresses_of, function_marks}
use Rattle.no_verify_structure.proofs.marks.functions_marked.Given as goal

abbrev pub invariant-loop-k : goal.invariant-loop-k
invariant-loop-k l = record { addresses : l.addresses ≡ addresses_of (take l.k l.program.functions); rest : first_at (function_marks l.program) 0 l.program.functions ≡ first_at (function_marks l.program) l.k (drop l.k l.program.functions) }
