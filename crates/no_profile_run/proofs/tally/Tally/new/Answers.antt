use Rattle.no_profile_run.proofs.Begins.{begins}
use Rattle.std.proofs.Common.{refl}
use Rattle.no_profile_run.proofs.tally.Tally.new.Goals as goal

pub returns : goal.returns
returns c = begins _ c.args.functions 131328 c.in_ok-counters.ensures c.new.ensures.items c.in_ok-stamps.ensures refl
