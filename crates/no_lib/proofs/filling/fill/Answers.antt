use Rattle.std.proofs.Common.{arith, sym}
use Rattle.no_semantics.specs.Externals.{do_set}
use Rattle.no_lib.proofs.Told.{of_four}
use Rattle.no_lib.proofs.Filled.{set_none, set_refused, set_missing_over, set_done_over, set_wants, set_done}
use Rattle.no_lib.proofs.filling.fill.Goals as goal

pub returns-then-n-eq0 : goal.returns-then-n-eq0
returns-then-n-eq0 g c =
    let r = g.M.Memory.regions c.args.mem.now in
    let it = c.in-Some.given in
    record { means = λ heap env. of_four (do_set r) c.args.left c.in-Some.ensures.1 (set_none r it.0 it.1 it.2 c.args.left _ c.requires c.if-n-eq0.true) }

pub returns-then-cost-left-2 : goal.returns-then-cost-left-2
returns-then-cost-left-2 g c =
    let r = g.M.Memory.regions c.args.mem.now in
    let it = c.in-Some.given in
    record { means = λ heap env. of_four (do_set r) c.args.left c.in-Some.ensures.1 (set_done_over r (g.M.Memory.held c.args.mem.now) it.0 it.1 it.2 c.args.left _ (omega (arith, c.if-n-eq0.false)) (sym c.in-Done.ensures) c.if-cost-left-2.true) }

pub returns-in-Refused : goal.returns-in-Refused
returns-in-Refused g c =
    let r = g.M.Memory.regions c.args.mem.now in
    let it = c.in-Some.given in
    record { means = λ heap env. of_four (do_set r) c.args.left c.in-Some.ensures.1 (set_refused r (g.M.Memory.held c.args.mem.now) it.0 it.1 it.2 c.args.left c.in-Refused.trap _ c.requires (omega (arith, c.if-n-eq0.false)) (sym c.in-Refused.ensures)) }

pub returns-then-cost-left : goal.returns-then-cost-left
returns-then-cost-left g c =
    let r = g.M.Memory.regions c.args.mem.now in
    let it = c.in-Some.given in
    record { means = λ heap env. of_four (do_set r) c.args.left c.in-Some.ensures.1 (set_missing_over r (g.M.Memory.held c.args.mem.now) it.0 it.1 it.2 c.args.left c.in-Missing.page _ (omega (arith, c.if-n-eq0.false)) (sym c.in-Missing.ensures) c.if-cost-left.true) }

pub returns-else-cost-left : goal.returns-else-cost-left
returns-else-cost-left g c =
    let r = g.M.Memory.regions c.args.mem.now in
    let it = c.in-Some.given in
    record { means = λ heap env. of_four (do_set r) c.args.left c.in-Some.ensures.1 (set_wants r it.0 it.1 it.2 c.args.left c.in-Missing.page _ (omega (arith, c.if-n-eq0.false)) (sym c.in-Missing.ensures) c.if-cost-left.false) }

pub returns-in-Done-set : goal.returns-in-Done-set
returns-in-Done-set g c =
    let r = g.M.Memory.regions c.args.mem.now in
    let it = c.in-Some.given in
    let e = c.in-Done-set.ensures in
    record { means = λ heap env. of_four (do_set r) c.args.left c.in-Some.ensures.1 (set_done r _ (g.M.Memory.held c.args.mem.now) _ (g.M.Memory.own c.args.mem.now) (g.M.Memory.own c.set.new.self) (g.M.Memory.byte c.args.mem.now) (g.M.Memory.byte c.set.new.self) heap env it.0 it.1 it.2 c.args.left e.regions e.held (omega (arith, c.if-n-eq0.false)) (sym c.in-Done.ensures) c.if-cost-left-2.false e.stored.1 e.own) }
