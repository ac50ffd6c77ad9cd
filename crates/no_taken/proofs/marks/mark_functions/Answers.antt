use Rattle.std.proofs.Common.{List, ap, ◌∙◌}
use Rattle.std.specs.List.{flat_map}
use Rattle.no_ir.specs.declared.function.Block.{Block}
use Rattle.no_semantics.specs.Taken.{block_taken, function_taken}
use Rattle.no_taken.specs.Marked.{marked}
use Rattle.no_taken.proofs.Flags.{marked_on}
use Rattle.no_taken.proofs.marks.mark_functions.Goals as goal

pub loop-function-preserved : goal.loop-function-preserved
loop-function-preserved c =
    marked_on function_taken c.args.functions.now c.loop-function.function-index c.function-item.result c.loop-function.flags c.mark_blocks.new.flags _ c.loop-function-test.true c.function-item.is c.loop-function.invariant
    (c.mark_blocks.ensures ∙ ap (λ (xs : List Block). marked (flat_map block_taken xs) c.loop-function.flags) c.as_slice.ensures)
