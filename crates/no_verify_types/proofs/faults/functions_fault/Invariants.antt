use Rattle.std.proofs.Common.{◌≡◌, drop}
use Rattle.no_verify_types.specs.Places.{first_found, function_fault, typed}
use Rattle.no_verify_types.proofs.faults.functions_fault.Given as goal

abbrev pub invariant-loop-number : goal.invariant-loop-number
invariant-loop-number l = first_found (function_fault (typed l.program l.role)) 0 l.functions ≡ first_found (function_fault (typed l.program l.role)) l.number (drop l.number l.functions)
