use Rattle.no_taken.proofs.Flags.{all_marked}
use Rattle.no_taken.proofs.marks.taken.Goals as goal

pub returns : goal.returns
returns c =
    all_marked c.args.program.now c.len.result c.as_slice.result.now c.as_slice-2.result.now c.in_ok-flags.flags c.mark_globals.new.flags c.mark_functions.new.flags c.len.ensures c.in_ok-flags.ensures c.as_slice.ensures
    c.mark_globals.ensures c.as_slice-2.ensures c.mark_functions.ensures
