use Rattle.std.proofs.Common.{◌≡◌, ◌++◌, drop}
use Rattle.no_ir.specs.declared.function.Function.{Function}
use Rattle.no_filter.specs.Reasons.{those_from}
use Rattle.no_filter.proofs.reasons.pinned.Given as goal

abbrev pub invariant-loop-k : goal.invariant-loop-k
invariant-loop-k l = l.numbers.items ++ those_from (λ (g : Function). g.bound) l.k (drop l.k l.program.functions) ≡ those_from (λ (g : Function). g.bound) 0 l.program.functions
