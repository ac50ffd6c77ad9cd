use Rattle.no_semantics.specs.Externals.{do_swap}
use Rattle.no_lib.proofs.Told.{of_one}
use Rattle.no_lib.proofs.Chosen.{swap_means, no_swap_means}
use Rattle.no_lib.proofs.numbers.swap.Goals as goal

pub returns-in-Some-swapped : goal.returns-in-Some-swapped
returns-in-Some-swapped c = λ s. of_one (do_swap c.args.width) c.args.left c.in-Some.ensures (swap_means c.args.width c.in-Some.a c.in-Some-swapped.number c.args.left s c.requires c.in-Some-swapped.ensures)

pub returns-in-None : goal.returns-in-None
returns-in-None c = λ s. of_one (do_swap c.args.width) c.args.left c.in-Some.ensures (no_swap_means c.args.width c.in-Some.a c.args.left s c.requires c.in-None.ensures)
