use Rattle.no_code.specs.Source.{source}
use Rattle.no_code.proofs.Kept.{grows_adds, select_stays}
use Rattle.no_code.proofs.Grown.{adds_constants, adds_more, slot_stays}
use Rattle.no_code.proofs.plain.select.Goals as goal

pub returns : goal.returns
returns c =
    let a = c.args in
    let s = source a.from.program.now a.from.layout.now a.from.sizes.now a.from.addresses.now in
    let z = c.in_ok-condition.ensures in
    let x = c.in_ok-x.ensures in
    let mid = c.slot.new.code in
    let new = c.two.new.code in (
      grows_adds a.code.now new (adds_more a.code.now mid new z.0 x.0),
      select_stays s a.g.now a.frame a.i.now new a.t.now c.width.result c.into.result c.in_ok-condition.condition c.in_ok-x.x c.in_ok-x.y a.z.now a.a.now a.b.now c.requires.is c.width.ensures c.into.ensures
          (slot_stays s a.frame.registers mid.constants new.constants 1 a.z.now c.in_ok-condition.condition (adds_constants mid new x.0) z.1) x.1 x.2,
    )
