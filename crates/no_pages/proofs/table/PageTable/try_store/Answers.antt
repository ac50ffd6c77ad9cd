use Rattle.std.proofs.Common.{arith}
use Rattle.no_layout.specs.Orders.{bytes_of}
use Rattle.no_layout.specs.Width.{width_of}
use Rattle.no_pages.proofs.Tries.{some_width, tries_dirty, tries_held, tries_own, tries_store}
use Rattle.no_pages.proofs.table.PageTable.try_store.Goals as goal

pub returns-then-offset-bytes-le-PAGE_SIZE-clause-stored : goal.returns-then-offset-bytes-le-PAGE_SIZE-clause-stored
returns-then-offset-bytes-le-PAGE_SIZE-clause-stored c =
    let t = c.args.self.now in
    tries_store t.regions t.formed t.zeros.value t.slots.items t.kinds c.args.addr (width_of c.args.width) (some_width c.args.width) (omega (arith, t.slots.ok.0)) (omega arith) c.index_mut.result.now c.index_mut.ensures.value c.set_number.new.self c.args.big c.args.value c.set_number.result c.set_number.ensures

pub returns-then-offset-bytes-le-PAGE_SIZE-clause-dirty : goal.returns-then-offset-bytes-le-PAGE_SIZE-clause-dirty
returns-then-offset-bytes-le-PAGE_SIZE-clause-dirty c =
    let t = c.args.self.now in
    tries_dirty t.regions t.formed t.zeros.value t.slots.items t.kinds c.args.addr (width_of c.args.width) (some_width c.args.width) (omega (arith, t.slots.ok.0)) (omega arith) c.index_mut.result.now c.index_mut.ensures.value c.set_number.new.self (bytes_of c.args.big (width_of c.args.width) c.args.value) c.set_number.result c.set_number.ensures

pub returns-then-offset-bytes-le-PAGE_SIZE-clause-held : goal.returns-then-offset-bytes-le-PAGE_SIZE-clause-held
returns-then-offset-bytes-le-PAGE_SIZE-clause-held c =
    let t = c.args.self.now in
    tries_held t.regions t.formed t.zeros.value t.slots.items t.kinds c.args.addr (width_of c.args.width) (some_width c.args.width) (omega (arith, t.slots.ok.0)) (omega arith) c.index_mut.result.now c.index_mut.ensures.value c.set_number.new.self (bytes_of c.args.big (width_of c.args.width) c.args.value) c.set_number.result c.set_number.ensures

pub returns-then-offset-bytes-le-PAGE_SIZE-clause-own : goal.returns-then-offset-bytes-le-PAGE_SIZE-clause-own
returns-then-offset-bytes-le-PAGE_SIZE-clause-own c =
    let t = c.args.self.now in
    tries_own t.regions t.formed t.zeros.value t.slots.items t.kinds c.args.addr (width_of c.args.width) (some_width c.args.width) (omega (arith, t.slots.ok.0)) (omega arith) c.index_mut.result.now c.index_mut.ensures.value c.set_number.new.self (bytes_of c.args.big (width_of c.args.width) c.args.value) c.set_number.result c.set_number.ensures
