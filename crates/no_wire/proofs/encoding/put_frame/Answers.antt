use Rattle.no_wire.proofs.encoding.put_frame.Goals as goal

pub returns-in-LoadEnd-clause-ok : goal.returns-in-LoadEnd-clause-ok
returns-in-LoadEnd-clause-ok c = rw c.in-LoadEnd.is (rw c.to_be_bytes.ensures at c.put_page.ensures.ok)

pub returns-in-Start-clause-ok : goal.returns-in-Start-clause-ok
returns-in-Start-clause-ok c = rw c.in-Start.is (rw c.as_slice-in-Start.ensures at c.put_start.ensures.ok)

pub returns-in-Page-clause-ok : goal.returns-in-Page-clause-ok
returns-in-Page-clause-ok c = rw c.in-Page.is (rw c.as_slice-in-Page.ensures at c.put_page-in-Page.ensures.ok)

pub returns-in-Dirty-clause-ok : goal.returns-in-Dirty-clause-ok
returns-in-Dirty-clause-ok c = rw c.in-Dirty.is (rw c.as_slice-in-Dirty.ensures at c.put_page-in-Dirty.ensures.ok)

pub returns-in-Zero-clause-ok : goal.returns-in-Zero-clause-ok
returns-in-Zero-clause-ok c = rw c.in-Zero.is (c.put_page-in-Zero.ensures.ok)

pub returns-in-Want-clause-ok : goal.returns-in-Want-clause-ok
returns-in-Want-clause-ok c = rw c.in-Want.is (c.put_page-in-Want.ensures.ok)

pub returns-in-Finish-clause-ok : goal.returns-in-Finish-clause-ok
returns-in-Finish-clause-ok c = rw c.in-Finish.is (c.put_finish.ensures.ok)
