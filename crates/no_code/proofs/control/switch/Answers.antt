use Rattle.std.proofs.Common.{◌∙◌}
use Rattle.no_code.specs.Source.{source}
use Rattle.no_code.proofs.Branches.{switch_stays}
use Rattle.no_code.proofs.control.switch.Goals as goal

pub returns : goal.returns
returns c =
    let a = c.args in
    switch_stays (source a.from.program.now a.from.layout.now a.from.sizes.now a.from.addresses.now) a.g.now a.frame a.i.now a.code.now c.slot.new.code c.edge.new.code c.cases.new.code a.w a.a.now c.in_ok-x.x a.default c.in_ok-e.e c.in_ok-first.first c.in_ok-last.last a.given.now c.requires.is
    c.in_ok-x.ensures.0 c.in_ok-x.ensures.1 c.in_ok-e.ensures.0 c.in_ok-e.ensures.1 c.in_ok-cases.ensures (c.in_ok-first.ensures.0 ∙ c.len.ensures) (c.in_ok-last.ensures.0 ∙ c.len-2.ensures)
