use Rattle.no_verify_paths.proofs.Bits.{has_both}
use Rattle.no_verify_paths.proofs.words.meet.Goals as goal

pub returns-clause-members : goal.returns-clause-members
returns-clause-members c = has_both c.args.a c.args.b
