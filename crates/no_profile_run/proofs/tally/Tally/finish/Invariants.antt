use Rattle.std.proofs.Common.{length}
use Rattle.no_profile_run.proofs.Calls.{HasClosed}
use Rattle.no_profile_run.proofs.tally.Tally.finish.Given as goal

abbrev pub invariant-calls : goal.invariant-calls
invariant-calls l = HasClosed l.fn.self l.self l.count

abbrev pub decreases-calls : goal.decreases-calls
decreases-calls l = length l.self.live.items
