use Rattle.std.proofs.Common.{get_or, slice_set, arith}
use Rattle.no_machine.proofs.Lists.{set_length}
use Rattle.no_machine.proofs.Moving.{ready_at}
use Rattle.no_machine.proofs.edges.move_more.Goals as goal

pub read-first-requires : goal.read-first-requires
read-first-requires c = (ready_at c.args.window.now c.args.constants.now c.args.moves.now 0 (record { into = 0; from = 0 }) c.requires.ready (omega (arith, c.in-len3.len_at_least))).1

pub read-second-requires : goal.read-second-requires
read-second-requires c = (ready_at c.args.window.now c.args.constants.now c.args.moves.now 1 (record { into = 0; from = 0 }) c.requires.ready (omega (arith, c.in-len3.len_at_least))).1

pub read-third-requires : goal.read-third-requires
read-third-requires c = (ready_at c.args.window.now c.args.constants.now c.args.moves.now 2 (record { into = 0; from = 0 }) c.requires.ready (omega (arith, c.in-len3.len_at_least))).1

pub bounds-window-one : goal.bounds-window-one
bounds-window-one c = (ready_at c.args.window.now c.args.constants.now c.args.moves.now 0 (record { into = 0; from = 0 }) c.requires.ready (omega (arith, c.in-len3.len_at_least))).0

pub bounds-window-two : goal.bounds-window-two
bounds-window-two c =
    omega (arith, set_length c.args.window.now (get_or c.args.moves.now 0 (record { into = 0; from = 0 })).into c.read-first.result, (ready_at c.args.window.now c.args.constants.now c.args.moves.now 1 (record { into = 0; from = 0 }) c.requires.ready (omega (arith, c.in-len3.len_at_least))).0)

pub bounds-window-three : goal.bounds-window-three
bounds-window-three c =
    omega (arith, set_length c.args.window.now (get_or c.args.moves.now 0 (record { into = 0; from = 0 })).into c.read-first.result, set_length (slice_set c.args.window.now (get_or c.args.moves.now 0 (record { into = 0; from = 0 })).into c.read-first.result) (get_or c.args.moves.now 1 (record { into = 0; from = 0 })).into c.read-second.result, (ready_at c.args.window.now c.args.constants.now c.args.moves.now 2 (record { into = 0; from = 0 }) c.requires.ready (omega (arith, c.in-len3.len_at_least))).0)

pub read-first-requires-in-len4 : goal.read-first-requires-in-len4
read-first-requires-in-len4 c = (ready_at c.args.window.now c.args.constants.now c.args.moves.now 0 (record { into = 0; from = 0 }) c.requires.ready (omega (arith, c.in-len4.len_at_least))).1

pub read-second-requires-in-len4 : goal.read-second-requires-in-len4
read-second-requires-in-len4 c = (ready_at c.args.window.now c.args.constants.now c.args.moves.now 1 (record { into = 0; from = 0 }) c.requires.ready (omega (arith, c.in-len4.len_at_least))).1

pub read-third-requires-in-len4 : goal.read-third-requires-in-len4
read-third-requires-in-len4 c = (ready_at c.args.window.now c.args.constants.now c.args.moves.now 2 (record { into = 0; from = 0 }) c.requires.ready (omega (arith, c.in-len4.len_at_least))).1

pub read-fourth-requires : goal.read-fourth-requires
read-fourth-requires c = (ready_at c.args.window.now c.args.constants.now c.args.moves.now 3 (record { into = 0; from = 0 }) c.requires.ready (omega (arith, c.in-len4.len_at_least))).1

pub bounds-window-one-in-len4 : goal.bounds-window-one-in-len4
bounds-window-one-in-len4 c = (ready_at c.args.window.now c.args.constants.now c.args.moves.now 0 (record { into = 0; from = 0 }) c.requires.ready (omega (arith, c.in-len4.len_at_least))).0

pub bounds-window-two-in-len4 : goal.bounds-window-two-in-len4
bounds-window-two-in-len4 c =
    omega (arith, set_length c.args.window.now (get_or c.args.moves.now 0 (record { into = 0; from = 0 })).into c.read-first-in-len4.result, (ready_at c.args.window.now c.args.constants.now c.args.moves.now 1 (record { into = 0; from = 0 }) c.requires.ready (omega (arith, c.in-len4.len_at_least))).0)

pub bounds-window-three-in-len4 : goal.bounds-window-three-in-len4
bounds-window-three-in-len4 c =
    omega (arith, set_length c.args.window.now (get_or c.args.moves.now 0 (record { into = 0; from = 0 })).into c.read-first-in-len4.result, set_length (slice_set c.args.window.now (get_or c.args.moves.now 0 (record { into = 0; from = 0 })).into c.read-first-in-len4.result) (get_or c.args.moves.now 1 (record { into = 0; from = 0 })).into c.read-second-in-len4.result, (ready_at c.args.window.now c.args.constants.now c.args.moves.now 2 (record { into = 0; from = 0 }) c.requires.ready (omega (arith, c.in-len4.len_at_least))).0)

pub bounds-window-four : goal.bounds-window-four
bounds-window-four c =
    omega (arith, set_length c.args.window.now (get_or c.args.moves.now 0 (record { into = 0; from = 0 })).into c.read-first-in-len4.result, set_length (slice_set c.args.window.now (get_or c.args.moves.now 0 (record { into = 0; from = 0 })).into c.read-first-in-len4.result) (get_or c.args.moves.now 1 (record { into = 0; from = 0 })).into c.read-second-in-len4.result, set_length (slice_set (slice_set c.args.window.now (get_or c.args.moves.now 0 (record { into = 0; from = 0 })).into c.read-first-in-len4.result) (get_or c.args.moves.now 1 (record { into = 0; from = 0 })).into c.read-second-in-len4.result) (get_or c.args.moves.now 2 (record { into = 0; from = 0 })).into c.read-third-in-len4.result, (ready_at c.args.window.now c.args.constants.now c.args.moves.now 3 (record { into = 0; from = 0 }) c.requires.ready (omega (arith, c.in-len4.len_at_least))).0)
