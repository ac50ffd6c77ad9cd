use Rattle.std.proofs.Common.{◌≡◌, ◌&&◌, false, slice_index_or}
use Rattle.no_profile.specs.Choices.{passing}
use Rattle.no_profile.proofs.selecting.both.Given as goal

abbrev pub invariant-loop-k : goal.invariant-loop-k
invariant-loop-k l = l.ks ≡ passing (λ k. slice_index_or l.worth k false && slice_index_or l.free k false) l.k
