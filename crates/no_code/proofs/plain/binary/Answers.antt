use Rattle.no_code.specs.Source.{source}
use Rattle.no_code.proofs.Kept.{binary_stays, grows_adds}
use Rattle.no_code.proofs.plain.binary.Goals as goal

pub returns : goal.returns
returns c =
    let a = c.args in
    let s = source a.from.program.now a.from.layout.now a.from.sizes.now a.from.addresses.now in
    let x = c.in_ok-x.ensures in (
      grows_adds a.code.now c.two.new.code x.0,
      binary_stays s a.g.now a.frame a.i.now c.two.new.code a.o a.w c.into.result c.in_ok-x.x c.in_ok-x.y a.a.now a.b.now c.binary_cell.result c.binary_cell.ensures c.requires.is c.into.ensures x.1 x.2,
    )
