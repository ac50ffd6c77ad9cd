use Rattle.no_verify_paths.proofs.Bits.{has_read}
use Rattle.no_verify_paths.proofs.words.is_member.Goals as goal

pub returns : goal.returns
returns c = has_read c.args.word _
