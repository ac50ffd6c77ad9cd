use Rattle.no_code.specs.Source.{source}
use Rattle.no_code.proofs.Branches.{br_stays}
use Rattle.no_code.proofs.control.branch.Goals as goal

pub returns : goal.returns
returns c =
    let a = c.args in
    br_stays (source a.from.program.now a.from.layout.now a.from.sizes.now a.from.addresses.now) a.g.now a.frame a.i.now a.code.now c.edge.new.code a.to c.in_ok-e.e c.requires.is c.in_ok-e.ensures.0 c.in_ok-e.ensures.1
