use Rattle.std.proofs.Common.{◌≡◌, drop, false, get_or}
use Rattle.no_verify_types.specs.Named.{first_unknown}
use Rattle.no_verify_types.proofs.unknown.first_unknown.Given as goal

abbrev pub invariant-loop-number : goal.invariant-loop-number
invariant-loop-number l = first_unknown l.role (λ k. get_or l.marks k false) 0 l.functions ≡ first_unknown l.role (λ k. get_or l.marks k false) l.number (drop l.number l.functions)
