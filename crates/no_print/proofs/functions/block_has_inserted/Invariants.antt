use Rattle.std.proofs.Common.{◌≡◌, drop}
use Rattle.std.specs.List.{list_any}
use Rattle.no_ir.specs.declared.instruction.Instr.{Instr}
use Rattle.no_print.proofs.functions.block_has_inserted.Given as goal

abbrev pub invariant-loop-i : goal.invariant-loop-i
invariant-loop-i l = list_any (λ (i : Instr). i.inserted) l.i-items ≡ list_any (λ (i : Instr). i.inserted) (drop l.i-index l.i-items)
