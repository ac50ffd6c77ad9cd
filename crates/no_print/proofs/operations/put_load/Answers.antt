use Rattle.no_print.proofs.Appending.{left_all, left_last, left_more}
use Rattle.no_print.proofs.operations.put_load.Goals as goal

pub returns : goal.returns
returns c =
    left_last _ _ _ _ _ c.in_ok-put_pointer.ensures (
    left_more _ _ _ _ _ _ c.in_ok-put_comma.ensures (
    left_more _ _ _ _ _ _ c.in_ok-put_type.ensures (
    left_more _ _ _ _ _ _ c.in_ok-put_volatile.ensures (
    left_more _ _ _ _ _ _ c.in_ok-put_word.ensures (
    left_all _ _)))))
