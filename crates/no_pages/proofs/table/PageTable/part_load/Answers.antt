use Rattle.std.proofs.Common.{◌≡◌, ◌%◌, ℕ, List, None, false, subst, sym, arith}
use Rattle.no_layout.specs.Memory.{refusal}
use Rattle.no_layout.specs.Width.{width_of}
use Rattle.no_pages.specs.Slot.{IsHeldNumber}
use Rattle.no_pages.proofs.Tries.{part_load, some_width}
use Rattle.no_pages.proofs.table.PageTable.part_load.Goals as goal

pub returns-in-None : goal.returns-in-None
returns-in-None c =
    let t = c.args.self.now in
    let number = subst (λ (z : List ℕ). IsHeldNumber c.held_number.result z c.index.result.now c.args.big (width_of c.args.width) (c.args.addr % 4096)) c.deref.ensures c.held_number.ensures in
    part_load t.regions t.formed t.zeros.value t.slots.items t.kinds c.args.addr (width_of c.args.width) (some_width c.args.width) (omega (arith, t.slots.ok.0)) (omega arith) c.index.result.now c.index.ensures c.args.big c.held_number.result (subst (λ (n : ℕ). refusal t.regions false c.args.addr n ≡ None) c.bytes-2.ensures (sym c.in-None.ensures)) number
