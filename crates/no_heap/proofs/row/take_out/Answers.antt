use Rattle.std.proofs.Common.{arith, ◌+◌, ◌-◌}
use Rattle.no_heap.proofs.Rows.{gone_front, gone_back}
use Rattle.no_heap.proofs.row.take_out.Goals as goal

pub returns-then-index-count-clause-gone : goal.returns-then-index-count-clause-gone
returns-then-index-count-clause-gone c =
    gone_front c.args.slots.now c.args.first c.args.count c.args.index (c.args.first + c.args.index + 1 - c.args.first) c.rotate_right.new.self c.requires.back c.requires.within (omega arith) c.rotate_right.ensures.after

pub returns-clause-gone : goal.returns-clause-gone
returns-clause-gone c =
    gone_back c.args.slots.now c.args.first c.args.count c.args.index (c.args.count - c.args.index - 1) (c.args.first + c.args.count - (c.args.first + c.args.index)) c.rotate_left.new.self c.requires.back (omega (arith, c.requires.within)) (omega (arith, c.requires.within)) c.rotate_left.ensures.after
