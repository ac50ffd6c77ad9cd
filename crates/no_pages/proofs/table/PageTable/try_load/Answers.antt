use Rattle.std.proofs.Common.{◌%◌, ℕ, List, subst, arith}
use Rattle.no_layout.specs.Width.{width_of}
use Rattle.no_pages.specs.Slot.{IsNumberAt}
use Rattle.no_pages.proofs.Tries.{some_width, tries_load}
use Rattle.no_pages.proofs.table.PageTable.try_load.Goals as goal

pub returns-then-offset-bytes-le-PAGE_SIZE : goal.returns-then-offset-bytes-le-PAGE_SIZE
returns-then-offset-bytes-le-PAGE_SIZE c =
    let t = c.args.self.now in
    let number = subst (λ (z : List ℕ). IsNumberAt c.number.result z c.index.result.now c.args.big (width_of c.args.width) (c.args.addr % 4096)) c.deref.ensures c.number.ensures in
    tries_load t.regions t.formed t.zeros.value t.slots.items t.kinds c.args.addr (width_of c.args.width) (some_width c.args.width) (omega (arith, t.slots.ok.0)) (omega arith) c.index.result.now c.index.ensures c.args.big c.number.result number
