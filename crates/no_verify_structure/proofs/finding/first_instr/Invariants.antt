use Rattle.std.proofs.Common.{drop, ◌≡◌}
use Rattle.no_verify_structure.specs.Finding.{block_break, first_at}
use Rattle.no_verify_structure.proofs.finding.first_instr.Given as goal

abbrev pub invariant-loop-b : goal.invariant-loop-b
invariant-loop-b g l = first_at (λ b. block_break (g.T.InstrRule.keeps l.rule)) 0 l.blocks ≡ first_at (λ b. block_break (g.T.InstrRule.keeps l.rule)) l.b (drop l.b l.blocks)
