use Rattle.no_code.specs.Source.{source}
use Rattle.no_code.proofs.Kept.{load_stays, grows_adds}
use Rattle.no_code.proofs.plain.load.Goals as goal

pub returns : goal.returns
returns c =
    let a = c.args in
    let s = source a.from.program.now a.from.layout.now a.from.sizes.now a.from.addresses.now in
    let x = c.in_ok-x.ensures in (
      grows_adds a.code.now c.slot.new.code x.0,
      load_stays s a.g.now a.frame a.i.now c.slot.new.code a.volatile a.t.now c.width.result c.into.result c.in_ok-x.x a.a.now c.requires.is c.width.ensures c.into.ensures x.1,
    )
