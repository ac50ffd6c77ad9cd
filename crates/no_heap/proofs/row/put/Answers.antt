use Rattle.std.proofs.Common.{arith, ◌+◌, ◌-◌}
use Rattle.no_heap.proofs.Rows.{put_front, put_back}
use Rattle.no_heap.proofs.row.put.Goals as goal

pub returns-then-index-count-clause-put : goal.returns-then-index-count-clause-put
returns-then-index-count-clause-put c =
    put_front c.args.slots.now c.args.first c.args.count c.args.index (c.args.first + c.args.index - (c.args.first - 1)) c.args.block c.rotate_left.new.self c.requires.front c.requires.back c.requires.within (omega (arith, c.requires.front)) c.rotate_left.ensures.after

pub returns-clause-put : goal.returns-clause-put
returns-clause-put c =
    put_back c.args.slots.now c.args.first c.args.count c.args.index (c.args.count - c.args.index) (c.args.first + c.args.count + 1 - (c.args.first + c.args.index)) c.args.block c.rotate_right.new.self c.requires.back (omega (arith, c.requires.within)) (omega (arith, c.requires.within)) c.rotate_right.ensures.after
