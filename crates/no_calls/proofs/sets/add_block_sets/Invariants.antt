use Rattle.std.proofs.Common.{◌≡◌, ◌++◌, take}
use Rattle.std.specs.List.{flat_map}
use Rattle.no_ir.specs.declared.instruction.Instr.{Instr}
use Rattle.no_calls.specs.Shapes.{op_sets}
use Rattle.no_calls.proofs.sets.add_block_sets.Given as goal

abbrev pub invariant-loop-instr : goal.invariant-loop-instr
invariant-loop-instr l = l.sets.items ≡ l.fn.sets.items ++ flat_map (λ (i : Instr). op_sets l.n l.shapes i.op) (take l.instr-index l.instrs)
