use Rattle.no_ir.specs.declared.instruction.Instr.{Instr}
use Rattle.no_verify_types.specs.Places.{wrong_in}
use Rattle.no_verify_types.specs.Typing.{op_typed}
use Rattle.no_verify_types.proofs.Firsts.{found_here, not_here}
use Rattle.no_verify_types.proofs.faults.blocks_fault.Goals as goal

pub returns-in-Some : goal.returns-in-Some
returns-in-Some c =
    found_here (wrong_in (λ (i : Instr). op_typed c.args.program.now c.args.role c.args.given.now c.args.types.now i.op)) c.args.blocks.now c.loop-number.number c.index-blocks-number.result c.in_ok-place.field-0 c.in-Some.place _ c.loop-number-test.true c.index-blocks-number.is c.in_ok-place.ensures c.in-Some.is c.loop-number.invariant

pub loop-number-preserved : goal.loop-number-preserved
loop-number-preserved c =
    not_here (wrong_in (λ (i : Instr). op_typed c.args.program.now c.args.role c.args.given.now c.args.types.now i.op)) c.args.blocks.now c.loop-number.number c.index-blocks-number.result c.in_ok-place.field-0 _ c.loop-number-test.true c.index-blocks-number.is c.in_ok-place.ensures c.in_default.is c.loop-number.invariant
