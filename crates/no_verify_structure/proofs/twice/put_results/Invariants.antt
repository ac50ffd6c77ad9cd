use Rattle.std.proofs.Common.{drop, take, ◌++◌, ◌≡◌}
use Rattle.std.specs.List.{flat_map}
use Rattle.no_ir.specs.declared.instruction.Instr.{Instr}
use Rattle.no_verify_structure.specs.Finding.{first_break}
use Rattle.no_verify_structure.specs.Names.{instr_registers}
use Rattle.no_verify_structure.specs.Twice.{is_new, result_twice}
use Rattle.no_verify_structure.proofs.twice.put_results.Given as goal

abbrev pub invariant-loop-i : goal.invariant-loop-i
invariant-loop-i l = record { registers : l.registers ≡ l.fn.registers ++ flat_map instr_registers (take l.i l.instrs); rest : result_twice l.fn.registers l.instrs ≡ first_break (λ i (instr : Instr). is_new (l.fn.registers ++ flat_map instr_registers (take i l.instrs)) instr.result) l.i (drop l.i l.instrs) }
