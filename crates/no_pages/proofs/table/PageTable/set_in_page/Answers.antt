use Rattle.std.proofs.Common.{◌∙◌, replicate, ap, arith}
use Rattle.std.proofs.lemmas.List.{length-replicate}
use Rattle.no_layout.specs.Numbers.{marked}
use Rattle.no_pages.specs.Table.{dirty_of}
use Rattle.no_pages.proofs.Puts.{put_bytes, put_dirty, put_held, put_own}
use Rattle.no_pages.proofs.table.PageTable.set_in_page.Goals as goal

pub returns-clause-bytes : goal.returns-clause-bytes
returns-clause-bytes c =
    let t = c.args.self.now in
    let len = length-replicate c.args.count c.args.byte in
    put_bytes t.zeros.value t.slots.items c.args.addr (replicate c.args.count c.args.byte) c.requires.own (omega (arith, len)) (omega (arith, len)) c.index_mut.result.now c.index_mut.ensures.value c.set.new.self c.set.ensures

pub returns-clause-dirty : goal.returns-clause-dirty
returns-clause-dirty c =
    let t = c.args.self.now in
    let len = length-replicate c.args.count c.args.byte in
    put_dirty t.zeros.value t.slots.items c.args.addr (replicate c.args.count c.args.byte) c.requires.own (omega (arith, len)) (omega (arith, len)) c.index_mut.result.now c.index_mut.ensures.value c.set.new.self c.set.ensures
    ∙ ap (marked (dirty_of t) c.args.addr) len

pub returns-clause-held : goal.returns-clause-held
returns-clause-held c =
    let t = c.args.self.now in
    let len = length-replicate c.args.count c.args.byte in
    put_held t.zeros.value t.slots.items c.args.addr (replicate c.args.count c.args.byte) c.requires.own (omega (arith, len)) (omega (arith, len)) c.index_mut.result.now c.index_mut.ensures.value c.set.new.self c.set.ensures

pub returns-clause-own : goal.returns-clause-own
returns-clause-own c =
    let t = c.args.self.now in
    let len = length-replicate c.args.count c.args.byte in
    put_own t.zeros.value t.slots.items c.args.addr (replicate c.args.count c.args.byte) c.requires.own (omega (arith, len)) (omega (arith, len)) c.index_mut.result.now c.index_mut.ensures.value c.set.new.self c.set.ensures
