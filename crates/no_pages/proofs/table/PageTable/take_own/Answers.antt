use Rattle.std.proofs.Common.{◌∙◌, refl}
use Rattle.no_pages.proofs.Owned.{held_within, owned_bytes, owned_dirty, owned_held, set_kinds}
use Rattle.no_pages.proofs.table.PageTable.take_own.Goals as goal

pub invariant_of-self-clause-kinds : goal.invariant_of-self-clause-kinds
invariant_of-self-clause-kinds c =
    let t = c.args.self.now in
    set_kinds t.regions t.slots.items c.args.page _ c.index_mut.result.now (held_within t.slots.items c.args.page c.requires) c.index_mut.ensures.value refl t.kinds

pub returns-in_ok-bytes-in-Zeros-clause-bytes : goal.returns-in_ok-bytes-in-Zeros-clause-bytes
returns-in_ok-bytes-in-Zeros-clause-bytes c =
    let t = c.args.self.now in
    owned_bytes t.zeros.value t.slots.items c.args.page c.requires c.index.result.now c.index_mut.result.now c.index.ensures c.in-Zeros.is c.index_mut.ensures.value c.in_ok-bytes-in-Zeros.bytes (c.in_ok-bytes-in-Zeros.ensures.ok ∙ c.deref.ensures)

pub returns-in_ok-bytes-in-Zeros-clause-dirty : goal.returns-in_ok-bytes-in-Zeros-clause-dirty
returns-in_ok-bytes-in-Zeros-clause-dirty c =
    let t = c.args.self.now in
    owned_dirty t.zeros.value t.slots.items c.args.page c.requires c.index.result.now c.index_mut.result.now c.index.ensures c.in-Zeros.is c.index_mut.ensures.value c.in_ok-bytes-in-Zeros.bytes (c.in_ok-bytes-in-Zeros.ensures.ok ∙ c.deref.ensures)

pub returns-in_ok-bytes-in-Zeros-clause-held : goal.returns-in_ok-bytes-in-Zeros-clause-held
returns-in_ok-bytes-in-Zeros-clause-held c =
    let t = c.args.self.now in
    owned_held t.zeros.value t.slots.items c.args.page c.requires c.index.result.now c.index_mut.result.now c.index.ensures c.in-Zeros.is c.index_mut.ensures.value c.in_ok-bytes-in-Zeros.bytes (c.in_ok-bytes-in-Zeros.ensures.ok ∙ c.deref.ensures)
