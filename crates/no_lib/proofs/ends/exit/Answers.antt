use Rattle.no_semantics.specs.Externals.{do_exit}
use Rattle.no_lib.proofs.Told.{of_one, exits}
use Rattle.no_lib.proofs.ends.exit.Goals as goal

pub returns : goal.returns
returns c = λ s. of_one do_exit c.args.left c.in-Some.ensures (exits c.args.left c.in-Some.status s c.requires)
