use Rattle.no_code.specs.Source.{source}
use Rattle.no_code.proofs.Made.{puts_cell}
use Rattle.no_code.proofs.cells.make_cell.Goals as goal

pub returns : goal.returns
returns c =
    let a = c.args in
    puts_cell (source a.from.program.now a.from.layout.now a.from.sizes.now a.from.addresses.now) a.g.now a.frame a.code.now c.cell.new.code c.put_cell.new.code a.i.now c.in_ok-c.c a.place c.in_ok-c.ensures.0 c.in_ok-c.ensures.1 c.in_ok-put_cell.ensures
