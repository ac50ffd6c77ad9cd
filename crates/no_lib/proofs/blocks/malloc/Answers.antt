use Rattle.std.proofs.Common.{List, ap, sym, ◌∙◌}
use Rattle.no_heap.specs.declared.block.Block.{Block}
use Rattle.no_heap.specs.Blocks.{set_block}
use Rattle.no_heap.specs.Fit.{fit, rounded}
use Rattle.no_semantics.specs.Externals.{do_malloc}
use Rattle.no_lib.proofs.Told.{of_one, malloc_done, malloc_none}
use Rattle.no_lib.proofs.blocks.malloc.Goals as goal

pub returns-in-Some-place : goal.returns-in-Some-place
returns-in-Some-place c = λ s is.
    of_one do_malloc c.args.left c.in-Some.ensures (malloc_done c.args.left c.in-Some.size c.in-Some-place.place s c.place.new.self c.requires
    (c.in-Some-place.ensures.value ∙ ap (λ (bs : List Block). fit bs c.in-Some.size) (sym is))
    (c.in-Some-place.ensures.placed ∙ ap (λ (bs : List Block). set_block bs c.in-Some-place.place (rounded c.in-Some.size)) (sym is)))

pub returns-in-None : goal.returns-in-None
returns-in-None c = λ s is.
    of_one do_malloc c.args.left c.in-Some.ensures (malloc_none c.args.left c.in-Some.size s c.place.new.self c.requires
    (c.in-None.ensures.value ∙ ap (λ (bs : List Block). fit bs c.in-Some.size) (sym is)) (c.in-None.ensures.none ∙ sym is))
