use Rattle.no_code.specs.Source.{source}
use Rattle.no_code.proofs.Branches.{cond_br_stays}
use Rattle.no_code.proofs.control.branch_if.Goals as goal

pub returns : goal.returns
returns c =
    let a = c.args in
    cond_br_stays (source a.from.program.now a.from.layout.now a.from.sizes.now a.from.addresses.now) a.g.now a.frame a.i.now a.code.now c.slot.new.code c.edge.new.code c.edge-2.new.code a.a.now c.in_ok-x.x a.to c.in_ok-e.e a.other c.in_ok-f.f c.requires.is
    c.in_ok-x.ensures.0 c.in_ok-x.ensures.1 c.in_ok-e.ensures.0 c.in_ok-e.ensures.1 c.in_ok-f.ensures.0 c.in_ok-f.ensures.1
