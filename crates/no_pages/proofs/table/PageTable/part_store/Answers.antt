use Rattle.std.proofs.Common.{◌≡◌, ℕ, None, true, arith, subst, sym}
use Rattle.no_layout.specs.Memory.{refusal}
use Rattle.no_layout.specs.Orders.{bytes_of}
use Rattle.no_layout.specs.Width.{width_of}
use Rattle.no_pages.proofs.Tries.{part_dirty, part_held, part_kinds, part_own, part_store, some_width}
use Rattle.no_pages.proofs.table.PageTable.part_store.Goals as goal

pub returns-in-None-clause-stored : goal.returns-in-None-clause-stored
returns-in-None-clause-stored c =
    let t = c.args.self.now in
    part_store t.regions t.formed t.zeros.value t.slots.items t.kinds c.args.addr (width_of c.args.width) (some_width c.args.width) (omega (arith, t.slots.ok.0)) (omega arith) c.index_mut.result.now c.index_mut.ensures.value c.set_own_number.new.self c.args.big c.args.value c.set_own_number.result (subst (λ (n : ℕ). refusal t.regions true c.args.addr n ≡ None) c.bytes-2.ensures (sym c.in-None.ensures)) c.set_own_number.ensures

pub returns-in-None-clause-dirty : goal.returns-in-None-clause-dirty
returns-in-None-clause-dirty c =
    let t = c.args.self.now in
    part_dirty t.regions t.formed t.zeros.value t.slots.items t.kinds c.args.addr (width_of c.args.width) (some_width c.args.width) (omega (arith, t.slots.ok.0)) (omega arith) c.index_mut.result.now c.index_mut.ensures.value c.set_own_number.new.self (bytes_of c.args.big (width_of c.args.width) c.args.value) c.set_own_number.result c.set_own_number.ensures

pub returns-in-None-clause-held : goal.returns-in-None-clause-held
returns-in-None-clause-held c =
    let t = c.args.self.now in
    part_held t.regions t.formed t.zeros.value t.slots.items t.kinds c.args.addr (width_of c.args.width) (some_width c.args.width) (omega (arith, t.slots.ok.0)) (omega arith) c.index_mut.result.now c.index_mut.ensures.value c.set_own_number.new.self (bytes_of c.args.big (width_of c.args.width) c.args.value) c.set_own_number.result c.set_own_number.ensures

pub returns-in-None-clause-own : goal.returns-in-None-clause-own
returns-in-None-clause-own c =
    let t = c.args.self.now in
    part_own t.regions t.formed t.zeros.value t.slots.items t.kinds c.args.addr (width_of c.args.width) (some_width c.args.width) (omega (arith, t.slots.ok.0)) (omega arith) c.index_mut.result.now c.index_mut.ensures.value c.set_own_number.new.self (bytes_of c.args.big (width_of c.args.width) c.args.value) c.set_own_number.result c.set_own_number.ensures

pub invariant_of-self-clause-kinds : goal.invariant_of-self-clause-kinds
invariant_of-self-clause-kinds c =
    let t = c.args.self.now in
    part_kinds t.regions t.formed t.zeros.value t.slots.items t.kinds c.args.addr (width_of c.args.width) (some_width c.args.width) (omega (arith, t.slots.ok.0)) (omega arith) c.index_mut.result.now c.index_mut.ensures.value c.set_own_number.new.self (bytes_of c.args.big (width_of c.args.width) c.args.value) c.set_own_number.result c.set_own_number.ensures
