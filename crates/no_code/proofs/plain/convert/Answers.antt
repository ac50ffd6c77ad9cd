use Rattle.no_code.specs.Source.{source}
use Rattle.no_code.proofs.Kept.{cast_stays, grows_adds}
use Rattle.no_code.proofs.plain.convert.Goals as goal

pub returns : goal.returns
returns c =
    let a = c.args in
    let s = source a.from.program.now a.from.layout.now a.from.sizes.now a.from.addresses.now in
    let x = c.in_ok-x.ensures in (
      grows_adds a.code.now c.slot.new.code x.0,
      cast_stays s a.g.now a.frame a.i.now c.slot.new.code a.o a.t.now a.u.now c.width-w.result c.width-to.result c.into.result c.in_ok-x.x a.a.now c.cast_cell.result c.cast_cell.ensures c.requires.is c.width-w.ensures c.width-to.ensures c.into.ensures x.1,
    )
