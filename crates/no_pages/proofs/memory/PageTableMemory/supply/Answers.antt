use Rattle.std.proofs.Common.{◌≡◌, length, refl, arith}
use Rattle.no_pages.proofs.Owned.{set_kinds}
use Rattle.no_pages.proofs.Supplied.{page_within, supplied_bytes, supplied_dirty, supplied_held}
use Rattle.no_pages.proofs.memory.PageTableMemory.supply.Goals as goal

pub invariant_of-self-clause-kinds : goal.invariant_of-self-clause-kinds
invariant_of-self-clause-kinds c =
    let t = c.args.self.now in
    let page = page_within t.regions c.args.page t.formed c.requires.inside in
    set_kinds t.regions t.slots.items c.args.page _ c.index_mut.result.now (omega (arith, t.slots.ok.0)) c.index_mut.ensures.value refl t.kinds

pub returns-clause-bytes : goal.returns-clause-bytes
returns-clause-bytes c =
    let t = c.args.self.now in
    let page = page_within t.regions c.args.page t.formed c.requires.inside in
    let len : length c.args.bytes.now ≡ 4096 = omega arith in
    supplied_bytes t.zeros.value t.slots.items c.args.page (omega (arith, t.slots.ok.0)) c.index_mut.result.now c.index_mut.ensures.value c.in_ok-own.own c.args.bytes.now c.in_ok-own.ensures.ok len

pub returns-clause-held : goal.returns-clause-held
returns-clause-held c =
    let t = c.args.self.now in
    let page = page_within t.regions c.args.page t.formed c.requires.inside in
    let len : length c.args.bytes.now ≡ 4096 = omega arith in
    supplied_held t.zeros.value t.slots.items c.args.page (omega (arith, t.slots.ok.0)) c.index_mut.result.now c.index_mut.ensures.value c.in_ok-own.own c.args.bytes.now c.in_ok-own.ensures.ok len

pub returns-clause-dirty : goal.returns-clause-dirty
returns-clause-dirty c =
    let t = c.args.self.now in
    let page = page_within t.regions c.args.page t.formed c.requires.inside in
    let len : length c.args.bytes.now ≡ 4096 = omega arith in
    supplied_dirty t.zeros.value t.slots.items c.args.page (omega (arith, t.slots.ok.0)) c.index_mut.result.now c.index_mut.ensures.value c.in_ok-own.own c.args.bytes.now c.in_ok-own.ensures.ok len
