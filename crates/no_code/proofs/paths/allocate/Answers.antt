use Rattle.no_code.specs.Source.{source}
use Rattle.no_code.proofs.Kept.{alloca_stays, grows_adds}
use Rattle.no_code.proofs.paths.allocate.Goals as goal

pub returns : goal.returns
returns c =
    let a = c.args in (
      grows_adds a.code.now c.count_slot.new.code c.in_ok-x.ensures.0,
      alloca_stays (source a.from.program.now a.from.layout.now a.from.sizes.now a.from.addresses.now) a.g.now a.frame a.i.now c.count_slot.new.code a.t.now a.count.now a.stated c.into.result c.in_ok-x.x c.apart-stride.result c.aligned-align.result c.requires.is c.into.ensures c.in_ok-x.ensures.1
          c.apart-stride.ensures c.aligned-align.ensures.value c.aligned-align.ensures.some,
    )
