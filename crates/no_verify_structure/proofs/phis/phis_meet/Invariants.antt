use Rattle.std.proofs.Common.{drop, take, ◌≡◌}
use Rattle.no_ir.specs.declared.instruction.Instr.{Instr}
use Rattle.no_verify_structure.specs.Finding.{first_break}
use Rattle.no_verify_structure.specs.Phis.{op_meets, phi_allowed, phis_meet}
use Rattle.no_verify_structure.proofs.phis.phis_meet.Given as goal

abbrev pub invariant-loop-i : goal.invariant-loop-i
invariant-loop-i l = record { allowed : l.allowed ≡ phi_allowed l.b (take l.i l.instrs); rest : phis_meet l.before l.b l.instrs ≡ first_break (λ i (instr : Instr). op_meets l.before (phi_allowed l.b (take i l.instrs)) instr.op) l.i (drop l.i l.instrs) }
