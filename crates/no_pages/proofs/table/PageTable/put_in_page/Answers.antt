use Rattle.no_pages.proofs.Puts.{put_bytes, put_dirty, put_held, put_own}
use Rattle.no_pages.proofs.table.PageTable.put_in_page.Goals as goal

pub returns-clause-bytes : goal.returns-clause-bytes
returns-clause-bytes c =
    let t = c.args.self.now in
    put_bytes t.zeros.value t.slots.items c.args.addr c.args.bytes.now c.requires.own c.requires.some c.requires.fits c.index_mut.result.now c.index_mut.ensures.value c.put.new.self c.put.ensures

pub returns-clause-dirty : goal.returns-clause-dirty
returns-clause-dirty c =
    let t = c.args.self.now in
    put_dirty t.zeros.value t.slots.items c.args.addr c.args.bytes.now c.requires.own c.requires.some c.requires.fits c.index_mut.result.now c.index_mut.ensures.value c.put.new.self c.put.ensures

pub returns-clause-held : goal.returns-clause-held
returns-clause-held c =
    let t = c.args.self.now in
    put_held t.zeros.value t.slots.items c.args.addr c.args.bytes.now c.requires.own c.requires.some c.requires.fits c.index_mut.result.now c.index_mut.ensures.value c.put.new.self c.put.ensures

pub returns-clause-own : goal.returns-clause-own
returns-clause-own c =
    let t = c.args.self.now in
    put_own t.zeros.value t.slots.items c.args.addr c.args.bytes.now c.requires.own c.requires.some c.requires.fits c.index_mut.result.now c.index_mut.ensures.value c.put.new.self c.put.ensures
