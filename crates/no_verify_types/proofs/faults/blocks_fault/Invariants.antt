use Rattle.std.proofs.Common.{◌≡◌, drop}
use Rattle.no_ir.specs.declared.instruction.Instr.{Instr}
use Rattle.no_verify_types.specs.Places.{first_found, wrong_in}
use Rattle.no_verify_types.specs.Typing.{op_typed}
use Rattle.no_verify_types.proofs.faults.blocks_fault.Given as goal

abbrev pub invariant-loop-number : goal.invariant-loop-number
invariant-loop-number l = let wrong = wrong_in (λ (i : Instr). op_typed l.program l.role l.given l.types i.op) in first_found wrong 0 l.blocks ≡ first_found wrong l.number (drop l.number l.blocks)
