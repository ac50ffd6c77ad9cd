use Rattle.no_verify_paths.proofs.Bits.{has_either}
use Rattle.no_verify_paths.proofs.words.join.Goals as goal

pub returns : goal.returns
returns c = has_either c.args.a c.args.b
