use Rattle.no_heap.proofs.Indexed.{last_room}
use Rattle.no_heap.proofs.gap.last_gap.Goals as goal

pub returns-then-need-at : goal.returns-then-need-at
returns-then-need-at c = last_room c.args.blocks.now c.args.need c.end_before-at.result c.requires.live c.requires.some c.requires.come c.end_before-at.ensures c.if-need-at.true
