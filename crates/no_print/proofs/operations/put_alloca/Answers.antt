use Rattle.no_print.proofs.Appending.{left_all, left_last, left_more}
use Rattle.no_print.proofs.operations.put_alloca.Goals as goal

pub returns : goal.returns
returns c =
    left_last _ _ _ _ _ c.in_ok-put_alignment.ensures (
    left_more _ _ _ _ _ _ c.in_ok-put_count.ensures (
    left_more _ _ _ _ _ _ c.in_ok-put_type.ensures (
    left_more _ _ _ _ _ _ c.in_ok-put_word.ensures (
    left_all _ _))))
