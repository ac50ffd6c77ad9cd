use Rattle.no_code.specs.Source.{source}
use Rattle.no_code.proofs.Grown.{adds_constants, adds_more, slot_stays}
use Rattle.no_code.proofs.slot.two.Goals as goal

pub returns : goal.returns
returns c =
    let f = c.args.from in
    let x = c.in_ok-x.ensures in
    let y = c.in_ok-y.ensures in
    let a = c.args.code.now in
    let b = c.slot.new.code in
    let e = c.slot-2.new.code in (
      adds_more a b e x.0 y.0,
      slot_stays (source f.program.now f.layout.now f.sizes.now f.addresses.now) c.args.n b.constants e.constants c.args.w c.args.a.now c.in_ok-x.x (adds_constants b e y.0) x.1,
      y.1,
    )
