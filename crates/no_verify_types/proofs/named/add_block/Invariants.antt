use Rattle.std.proofs.Common.{◌≡◌, ◌++◌, take}
use Rattle.std.specs.List.{flat_map}
use Rattle.no_ir.specs.declared.instruction.Instr.{Instr}
use Rattle.no_verify_types.specs.Named.{op_names}
use Rattle.no_verify_types.proofs.named.add_block.Given as goal

abbrev pub invariant-loop-instr : goal.invariant-loop-instr
invariant-loop-instr l = l.names.items ≡ l.fn.names.items ++ flat_map (λ (i : Instr). op_names i.op) (take l.instr-index l.instrs)
