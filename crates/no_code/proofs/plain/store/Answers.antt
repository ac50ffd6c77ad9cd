use Rattle.no_code.specs.Source.{source}
use Rattle.no_code.proofs.Kept.{grows_adds, store_stays}
use Rattle.no_code.proofs.Grown.{adds_constants, adds_more, slot_stays}
use Rattle.no_code.proofs.plain.store.Goals as goal

pub returns : goal.returns
returns c =
    let a = c.args in
    let s = source a.from.program.now a.from.layout.now a.from.sizes.now a.from.addresses.now in
    let y = c.in_ok-y.ensures in
    let x = c.in_ok-x.ensures in
    let mid = c.slot.new.code in
    let new = c.slot-2.new.code in (
      grows_adds a.code.now new (adds_more a.code.now mid new y.0 x.0),
      store_stays s a.g.now a.frame a.i.now new a.volatile a.t.now c.width-w.result c.in_ok-y.y c.in_ok-x.x a.v.now a.a.now c.requires.is c.width-w.ensures
          (slot_stays s a.frame.registers mid.constants new.constants c.width-w.result a.v.now c.in_ok-y.y (adds_constants mid new x.0) y.1) x.1,
    )
