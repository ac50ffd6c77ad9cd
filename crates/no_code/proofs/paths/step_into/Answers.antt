use Rattle.std.proofs.Common.{◌∙◌}
use Rattle.no_code.specs.Source.{source}
use Rattle.no_code.proofs.Steps.{gep_stays}
use Rattle.no_code.proofs.paths.step_into.Goals as goal

pub returns : goal.returns
returns c =
    let a = c.args in
    gep_stays (source a.from.program.now a.from.layout.now a.from.sizes.now a.from.addresses.now) a.g.now a.frame a.i.now a.code.now c.slot.new.code c.path.new.code a.t.now a.a.now a.indices.now c.in_ok-x.x c.into.result c.in_ok-first.first c.in_ok-last.last c.requires.is c.into.ensures
    c.in_ok-x.ensures.0 c.in_ok-x.ensures.1 c.in_ok-path.ensures (c.in_ok-first.ensures.0 ∙ c.len.ensures) (c.in_ok-last.ensures.0 ∙ c.len-2.ensures)
