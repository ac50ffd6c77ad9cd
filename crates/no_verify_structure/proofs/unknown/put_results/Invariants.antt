use Rattle.std.proofs.Common.{take, ℕ, ◌||◌, ◌≡◌}
use Rattle.std.specs.List.{flat_map}
use Rattle.no_verify_structure.specs.Names.{instr_registers, is_in}
use Rattle.no_verify_structure.proofs.unknown.put_results.Given as goal

abbrev pub invariant-loop-instr : goal.invariant-loop-instr
invariant-loop-instr l = (r : ℕ) → is_in l.registers r ≡ (is_in l.fn.registers r || is_in (flat_map instr_registers (take l.instr-index l.instrs)) r)
