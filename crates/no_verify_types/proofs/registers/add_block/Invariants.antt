use Rattle.std.proofs.Common.{◌≡◌, ◌++◌, take}
use Rattle.std.specs.List.{flat_map}
use Rattle.no_verify_types.specs.Registers.{instr_defined}
use Rattle.no_verify_types.proofs.registers.add_block.Given as goal

abbrev pub invariant-loop-instr : goal.invariant-loop-instr
invariant-loop-instr l = l.all.items ≡ l.fn.all.items ++ flat_map instr_defined (take l.instr-index l.instrs)
