use Rattle.std.proofs.Common.{◌≡◌, drop, not}
use Rattle.std.specs.List.{position_from}
use Rattle.no_ir.specs.declared.instruction.Instr.{Instr}
use Rattle.no_verify_types.specs.Places.{wrong_in}
use Rattle.no_verify_types.specs.Typing.{op_typed}
use Rattle.no_verify_types.proofs.faults.block_fault.Given as goal

abbrev pub invariant-loop-place : goal.invariant-loop-place
invariant-loop-place l = position_from (λ i. not (op_typed l.program l.role l.given l.types i.op)) l.place (drop l.place l.block.instrs) ≡ wrong_in (λ (i : Instr). op_typed l.program l.role l.given l.types i.op) l.block
