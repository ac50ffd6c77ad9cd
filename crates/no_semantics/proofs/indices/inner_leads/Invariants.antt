use Rattle.std.proofs.Common.{◌≡◌, drop, map}
use Rattle.no_eval.specs.Numbers.{modulo}
use Rattle.no_semantics.specs.Indices.{inner_leads}
use Rattle.no_semantics.proofs.indices.inner_leads.Given as goal

abbrev pub invariant-loop-index : goal.invariant-loop-index
invariant-loop-index l = inner_leads l.program.types l.base (map (modulo l.pointer) l.indices) ≡ inner_leads l.program.types l.at (map (modulo l.pointer) (drop l.index-index l.indices))
