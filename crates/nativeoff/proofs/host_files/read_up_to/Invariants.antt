use Rattle.std.proofs.Common.{◌≤◌, ◌-◌, vec_len}
use Rattle.nativeoff.proofs.host_files.read_up_to.Given as goal

abbrev pub invariant-loop-buf : goal.invariant-loop-buf
invariant-loop-buf l = vec_len l.into ≤ l.limit

abbrev pub decreases-loop-buf : goal.decreases-loop-buf
decreases-loop-buf l = l.limit - vec_len l.into
