use Rattle.std.proofs.Common.{◌≡◌, drop}
use Rattle.std.specs.List.{flat_map}
use Rattle.no_ir.specs.declared.instruction.Instr.{Instr}
use Rattle.no_semantics.specs.Taken.{op_taken}
use Rattle.no_taken.specs.Marked.{marked}
use Rattle.no_taken.proofs.marks.mark_block.Given as goal

abbrev pub invariant-loop-instr : goal.invariant-loop-instr
invariant-loop-instr l = marked (flat_map (λ (i : Instr). op_taken i.op) (drop l.instr-index l.instrs)) l.flags ≡ marked (flat_map (λ (i : Instr). op_taken i.op) l.instrs) l.fn.flags
