use Rattle.std.proofs.Common.{◌≡◌, length}
use Rattle.no_profile_run.proofs.Bumps.{AreBumped}
use Rattle.no_profile_run.proofs.tally.bump.Given as goal

abbrev pub invariant-loop-k : goal.invariant-loop-k
invariant-loop-k l = record { first : AreBumped l.stamp l.fn.live.items l.live.items l.k; long : length l.live.items ≡ length l.fn.live.items }
