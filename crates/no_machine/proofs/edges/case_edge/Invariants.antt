use Rattle.std.proofs.Common.{◌≡◌, drop}
use Rattle.no_machine.specs.Did.{case_edge}
use Rattle.no_machine.proofs.edges.case_edge.Given as goal

abbrev pub invariant-loop-case : goal.invariant-loop-case
invariant-loop-case l = case_edge l.n l.default (drop l.case-index l.cases) ≡ case_edge l.n l.default l.cases
