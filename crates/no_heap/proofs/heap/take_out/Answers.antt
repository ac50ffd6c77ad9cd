use Rattle.no_heap.proofs.Indexed.{left_of_block}
use Rattle.no_heap.proofs.heap.take_out.Goals as goal

pub returns-clause-widest : goal.returns-clause-widest
returns-clause-widest c =
    left_of_block c.as_slice.ensures.value c.as_slice-2.ensures.value c.as_slice-3.ensures.value c.in-Some.ensures c.requires.widest c.remove.ensures.items c.raise_each.ensures c.raise_each-2.ensures
