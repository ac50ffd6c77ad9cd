use Rattle.std.proofs.Common.{◌≡◌, ◌∙◌, length, refl, sym, ap, arith}
use Rattle.no_pages.proofs.Owned.{held_within}
use Rattle.no_pages.proofs.Supplied.{replaced_held, supplied_bytes, supplied_dirty}
use Rattle.no_pages.proofs.table.PageTable.adopt_page.Goals as goal

pub returns-clause-bytes : goal.returns-clause-bytes
returns-clause-bytes c =
    let t = c.args.self.now in
    let len : length c.deref.result.now ≡ 4096 = omega arith in
    supplied_bytes t.zeros.value t.slots.items c.args.page (held_within t.slots.items c.args.page c.requires) c.index_mut.result.now c.index_mut.ensures.value c.args.bytes c.args.bytes.value refl (ap length (sym c.deref.ensures) ∙ len)

pub returns-clause-dirty : goal.returns-clause-dirty
returns-clause-dirty c =
    let t = c.args.self.now in
    let len : length c.deref.result.now ≡ 4096 = omega arith in
    supplied_dirty t.zeros.value t.slots.items c.args.page (held_within t.slots.items c.args.page c.requires) c.index_mut.result.now c.index_mut.ensures.value c.args.bytes c.args.bytes.value refl (ap length (sym c.deref.ensures) ∙ len)

pub returns-clause-held : goal.returns-clause-held
returns-clause-held c =
    let t = c.args.self.now in
    let len : length c.deref.result.now ≡ 4096 = omega arith in
    replaced_held t.zeros.value t.slots.items c.args.page (held_within t.slots.items c.args.page c.requires) c.index_mut.result.now c.index_mut.ensures.value c.args.bytes c.args.bytes.value refl (ap length (sym c.deref.ensures) ∙ len) c.requires
