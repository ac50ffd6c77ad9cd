use Rattle.std.proofs.Common.{◌≡◌, drop}
use Rattle.std.specs.List.{list_any}
use Rattle.no_ir.specs.declared.instruction.Instr.{Instr}
use Rattle.no_ir.specs.declared.function.Block.{Block}
use Rattle.no_print.proofs.functions.has_inserted.Given as goal

abbrev pub invariant-loop-b : goal.invariant-loop-b
invariant-loop-b l = list_any (λ (b : Block). list_any (λ (i : Instr). i.inserted) b.instrs) l.b-items ≡ list_any (λ (b : Block). list_any (λ (i : Instr). i.inserted) b.instrs) (drop l.b-index l.b-items)
