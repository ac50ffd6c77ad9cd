use Rattle.std.proofs.Common.{arith}
use Rattle.no_semantics.specs.Externals.{do_move}
use Rattle.no_lib.proofs.Told.{of_four}
use Rattle.no_lib.proofs.Moved.{move_none, move_judged, move_done}
use Rattle.no_lib.proofs.moving.transfer.Goals as goal

pub returns-then-n-eq0 : goal.returns-then-n-eq0
returns-then-n-eq0 g c =
    let r = g.M.Memory.regions c.args.mem.now in
    let it = c.in-Some.given in
    record { means = λ heap env. of_four (do_move r) c.args.left c.in-Some.ensures.1 (move_none r it.0 it.1 it.2 c.args.left _ c.requires c.if-n-eq0.true) }

pub returns-in-Some-judged : goal.returns-in-Some-judged
returns-in-Some-judged g c =
    let r = g.M.Memory.regions c.args.mem.now in
    let it = c.in-Some.given in
    record {
      means = λ heap env. of_four (do_move r) c.args.left c.in-Some.ensures.1
          (move_judged r it.0 it.1 it.2 c.args.left _ c.requires (omega (arith, c.if-n-eq0.false)) c.ready-source.result c.ready-target.result c.in-Some-judged.answer c.ready-source.ensures c.ready-target.ensures c.in-Some-judged.ensures);
    }

pub returns-in-Ok : goal.returns-in-Ok
returns-in-Ok g c =
    let r = g.M.Memory.regions c.args.mem.now in
    let it = c.in-Some.given in
    let e = c.in-Ok.ensures in
    record {
      means = λ heap env. of_four (do_move r) c.args.left c.in-Some.ensures.1
          (move_done r _ (g.M.Memory.held c.args.mem.now) _ (g.M.Memory.own c.args.mem.now) (g.M.Memory.own c.copy.new.mem) (g.M.Memory.byte c.args.mem.now) (g.M.Memory.byte c.copy.new.mem) heap env it.0 it.1 it.2 c.args.left
          c.ready-source.result c.ready-target.result e.regions e.held (omega (arith, c.if-n-eq0.false)) c.ready-source.ensures c.ready-target.ensures c.in_default-judged.ensures e.bytes e.kept);
    }
