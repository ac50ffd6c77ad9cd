use Rattle.no_verify_paths.proofs.Bits.{has_none}
use Rattle.no_verify_paths.proofs.sets.set_of.Goals as goal

pub loop-register-init : goal.loop-register-init
loop-register-init c = has_none
