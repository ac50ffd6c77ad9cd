use Rattle.no_print.proofs.Appending.{left_all, left_last, left_more}
use Rattle.no_print.proofs.operations.put_binary.Goals as goal

pub returns : goal.returns
returns c =
    left_last _ _ _ _ _ c.in_ok-put_narrow.ensures (
    left_more _ _ _ _ _ _ c.in_ok-put_comma.ensures (
    left_more _ _ _ _ _ _ c.in_ok-put_sized.ensures (
    left_more _ _ _ _ _ _ c.in_ok-put_binary_word.ensures (
    left_all _ _))))
