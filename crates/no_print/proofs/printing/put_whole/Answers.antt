use Rattle.no_print.proofs.Whole.{whole_text}
use Rattle.no_print.proofs.printing.put_whole.Goals as goal

pub returns : goal.returns
returns c =
    whole_text c.args.program.now c.args.types.now c.args.globals.now c.args.functions.now _ _ _ c.requires.types c.requires.globals c.requires.functions
    c.in_ok-put_module.ensures c.in_ok-put.ensures
