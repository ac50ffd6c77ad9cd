use Rattle.std.proofs.Common.{drop, not, ◌≡◌}
use Rattle.no_ir.specs.declared.instruction.Instr.{Instr}
use Rattle.no_verify_structure.specs.Ending.{first_terminator}
use Rattle.no_verify_structure.specs.Finding.{first_break}
use Rattle.no_module.specs.Instructions.{is_terminator}
use Rattle.no_verify_structure.proofs.ending.first_terminator.Given as goal

abbrev pub invariant-loop-i : goal.invariant-loop-i
invariant-loop-i l = first_terminator l.instrs ≡ first_break (λ i (instr : Instr). not (is_terminator instr.op)) l.i (drop l.i l.instrs)
