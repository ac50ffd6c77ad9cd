use Rattle.std.proofs.Common.{drop, nat_eq, take, ℕ, ◌≡◌}
use Rattle.indexmap.specs.IndexMap.{get}
use Rattle.no_ir.specs.declared.instruction.Operand.{Operand}
use Rattle.no_verify_structure.specs.Edges.{AreFirst}
use Rattle.no_verify_structure.specs.Finding.{first_break}
use Rattle.no_verify_structure.specs.Phis.{agrees, pair_of}
use Rattle.no_verify_structure.proofs.phis.pairs_agree.Given as goal

abbrev pub invariant-loop-i : goal.invariant-loop-i
invariant-loop-i l = record { firsts : AreFirst l.pairs l.i (get nat_eq l.firsts); rest : first_break (λ i (pair : Operand × ℕ). agrees (pair_of (take i l.pairs) pair.1) pair.0) 0 l.pairs ≡ first_break (λ i (pair : Operand × ℕ). agrees (pair_of (take i l.pairs) pair.1) pair.0) l.i (drop l.i l.pairs) }
