use Rattle.no_semantics.specs.Externals.{do_free}
use Rattle.no_lib.proofs.Told.{of_one, free_done, free_bad}
use Rattle.no_lib.proofs.blocks.free.Goals as goal

pub returns-in-Ok : goal.returns-in-Ok
returns-in-Ok c = λ s is. of_one do_free c.args.left c.in-Some.ensures (free_done c.args.left c.in-Some.at s c.args.heap.now c.free.new.self c.requires is c.in-Ok.ensures.frees)

pub returns-in-Err : goal.returns-in-Err
returns-in-Err c = λ s is. of_one do_free c.args.left c.in-Some.ensures (free_bad c.args.left c.in-Some.at c.in-Err.trap s c.args.heap.now c.free.new.self c.requires is c.in-Err.ensures.frees)
