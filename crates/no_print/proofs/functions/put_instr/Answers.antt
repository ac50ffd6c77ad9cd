use Rattle.no_print.proofs.Appending.{left_all, left_last, left_more}
use Rattle.no_print.proofs.functions.put_instr.Goals as goal

pub returns : goal.returns
returns c =
    left_last _ _ _ _ _ c.in_ok-put_inserted.ensures (
    left_more _ _ _ _ _ _ c.in_ok-put_with_result.ensures (
    left_all _ _))
