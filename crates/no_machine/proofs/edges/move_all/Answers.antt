use Rattle.std.proofs.Common.{get_or, arith}
use Rattle.no_machine.proofs.Lists.{set_length}
use Rattle.no_machine.proofs.Moving.{ready_at}
use Rattle.no_machine.proofs.edges.move_all.Goals as goal

pub bounds-window-one : goal.bounds-window-one
bounds-window-one c = (ready_at c.args.window.now c.args.constants.now c.args.moves.now 0 _ c.requires.ready (omega (arith, c.in-len1.len_at_least))).0

pub read-requires : goal.read-requires
read-requires c = (ready_at c.args.window.now c.args.constants.now c.args.moves.now 0 _ c.requires.ready (omega (arith, c.in-len1.len_at_least))).1

pub read-first-requires : goal.read-first-requires
read-first-requires c = (ready_at c.args.window.now c.args.constants.now c.args.moves.now 0 _ c.requires.ready (omega (arith, c.in-len2.len_at_least))).1

pub read-second-requires : goal.read-second-requires
read-second-requires c = (ready_at c.args.window.now c.args.constants.now c.args.moves.now 1 _ c.requires.ready (omega (arith, c.in-len2.len_at_least))).1

pub bounds-window-one-in-len2 : goal.bounds-window-one-in-len2
bounds-window-one-in-len2 c = (ready_at c.args.window.now c.args.constants.now c.args.moves.now 0 _ c.requires.ready (omega (arith, c.in-len2.len_at_least))).0

pub bounds-window-two : goal.bounds-window-two
bounds-window-two c =
    omega (arith, set_length c.args.window.now (get_or c.args.moves.now 0 (record { into = 0; from = 0 })).into c.read-first.result, (ready_at c.args.window.now c.args.constants.now c.args.moves.now 1 (record { into = 0; from = 0 }) c.requires.ready (omega (arith, c.in-len2.len_at_least))).0)
