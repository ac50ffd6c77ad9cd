use Rattle.no_heap.proofs.Indexed.{put_at_gap}
use Rattle.no_heap.proofs.heap.put_first.Goals as goal

pub returns-clause-widest : goal.returns-clause-widest
returns-clause-widest c =
    put_at_gap c.as_slice.ensures.value c.as_slice-2.ensures.value c.in-Some.ensures.gap c.in-Some.ensures.widest c.insert.ensures.items c.raise_each.ensures
