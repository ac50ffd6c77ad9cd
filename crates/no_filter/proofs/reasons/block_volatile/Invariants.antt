use Rattle.std.proofs.Common.{◌≡◌, drop}
use Rattle.std.specs.List.{list_any}
use Rattle.no_ir.specs.declared.instruction.Instr.{Instr}
use Rattle.no_filter.specs.Reasons.{op_volatile}
use Rattle.no_filter.proofs.reasons.block_volatile.Given as goal

abbrev pub invariant-loop-instr : goal.invariant-loop-instr
invariant-loop-instr l = list_any (λ (i : Instr). op_volatile l.program i.op) l.instrs ≡ list_any (λ (i : Instr). op_volatile l.program i.op) (drop l.instr-index l.instrs)
