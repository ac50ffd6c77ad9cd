use Rattle.std.proofs.Common.{drop, ◌≡◌}
use Rattle.no_verify_structure.specs.Finding.{first_break}
use Rattle.no_verify_structure.proofs.finding.first_break.Given as goal

abbrev pub invariant-loop-i : goal.invariant-loop-i
invariant-loop-i g l = first_break (λ i. g.T.InstrRule.keeps l.rule) 0 l.instrs ≡ first_break (λ i. g.T.InstrRule.keeps l.rule) l.i (drop l.i l.instrs)
