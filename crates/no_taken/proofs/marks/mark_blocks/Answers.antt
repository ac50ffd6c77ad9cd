use Rattle.std.proofs.Common.{List, ap, ◌∙◌}
use Rattle.std.specs.List.{flat_map}
use Rattle.no_ir.specs.declared.instruction.Instr.{Instr}
use Rattle.no_semantics.specs.Taken.{block_taken, op_taken}
use Rattle.no_taken.specs.Marked.{marked}
use Rattle.no_taken.proofs.Flags.{marked_on}
use Rattle.no_taken.proofs.marks.mark_blocks.Goals as goal

pub loop-block-preserved : goal.loop-block-preserved
loop-block-preserved c =
    marked_on block_taken c.args.blocks.now c.loop-block.block-index c.block-item.result c.loop-block.flags c.mark_block.new.flags _ c.loop-block-test.true c.block-item.is c.loop-block.invariant
    (c.mark_block.ensures ∙ ap (λ (xs : List Instr). marked (flat_map (λ (i : Instr). op_taken i.op) xs) c.loop-block.flags) c.as_slice.ensures)
