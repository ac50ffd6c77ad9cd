use Rattle.std.proofs.Common.{◌-◌, arith}
use Rattle.no_heap.proofs.Indexed.{formed_at}
use Rattle.no_heap.proofs.run.end_before.Goals as goal

pub overflow_add-result : goal.overflow_add-result
overflow_add-result c = let formed = formed_at c.args.blocks.now (c.args.index - 1) c.requires.live (omega (arith, c.requires.within, c.if-index-eq0.false)) in omega (arith, formed.below)
