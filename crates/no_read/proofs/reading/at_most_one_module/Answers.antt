use Rattle.no_read.proofs.ReadingLaws.{one_module}
use Rattle.no_read.proofs.reading.at_most_one_module.Goals as goal

pub returns : goal.returns
returns c = λ text role tokens a b p q. one_module text role tokens (λ k m x. c.modules_are_exact.ensures.meant _ _ _ _ m x) a b p q
