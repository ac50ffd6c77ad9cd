use Rattle.no_print.proofs.Appending.{left_all, left_last, left_more}
use Rattle.no_print.proofs.places.put_gep_place.Goals as goal

pub returns : goal.returns
returns c =
    left_last _ _ _ _ _ c.in_ok-put_gep_end.ensures (
    left_more _ _ _ _ _ _ c.in_ok-put_word-2.ensures (
    left_more _ _ _ _ _ _ c.in_ok-put_comma.ensures (
    left_more _ _ _ _ _ _ c.in_ok-put_type.ensures (
    left_more _ _ _ _ _ _ c.in_ok-put_sign.ensures (
    left_more _ _ _ _ _ _ c.in_ok-put_word.ensures (
    left_all _ _))))))
