use Rattle.std.proofs.Common.{◌∙◌}
use Rattle.no_code.specs.Source.{source}
use Rattle.no_code.proofs.Whole.{function_made}
use Rattle.no_code.proofs.building.function.Goals as goal

pub returns : goal.returns
returns c =
    let a = c.args in
    function_made (source a.from.program.now a.from.layout.now a.from.sizes.now a.from.addresses.now) a.f c.in_ok-base.base a.g.now a.code.now c.make_home.new.code c.function_cells.new.code c.requires.homes (c.in_ok-base.ensures.0 ∙ c.len.ensures) c.in_ok-make_home.ensures c.in_ok-function_cells.ensures
