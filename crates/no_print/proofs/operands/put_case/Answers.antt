use Rattle.no_print.proofs.Appending.{left_all, left_last, left_more}
use Rattle.no_print.proofs.operands.put_case.Goals as goal

pub returns : goal.returns
returns c =
    left_last _ _ _ _ _ c.in_ok-put_label.ensures (
    left_more _ _ _ _ _ _ c.in_ok-put_comma.ensures (
    left_more _ _ _ _ _ _ c.in_ok-put_number.ensures (
    left_more _ _ _ _ _ _ c.in_ok-put_int_type.ensures (
    left_all _ _))))
