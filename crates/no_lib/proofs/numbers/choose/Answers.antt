use Rattle.no_lib.proofs.Told.{of_two}
use Rattle.no_lib.proofs.Chosen.{pick_means, no_pick_means}
use Rattle.no_lib.proofs.numbers.choose.Goals as goal

pub returns-in-Some-pick : goal.returns-in-Some-pick
returns-in-Some-pick c = λ which f s says. of_two f c.args.left c.in-Some.ensures (pick_means which f c.args.p c.args.width c.in-Some.given.0 c.in-Some.given.1 c.in-Some-pick.number c.args.left s c.requires (says c.in-Some.given.0 c.in-Some.given.1) c.in-Some-pick.ensures)

pub returns-in-None : goal.returns-in-None
returns-in-None c = λ which f s says. of_two f c.args.left c.in-Some.ensures (no_pick_means which f c.args.p c.args.width c.in-Some.given.0 c.in-Some.given.1 c.args.left s c.requires (says c.in-Some.given.0 c.in-Some.given.1) c.in-None.ensures)
