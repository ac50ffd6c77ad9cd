use Rattle.no_print.proofs.Appending.{left_all, left_last, left_more}
use Rattle.no_print.proofs.functions.put_attributes.Goals as goal

pub returns : goal.returns
returns c =
    left_last _ _ _ _ _ c.in_ok-put_device_address.ensures (
    left_more _ _ _ _ _ _ c.in_ok-put_bound.ensures (
    left_all _ _))
