use Rattle.std.proofs.Common.{take}
use Rattle.std.specs.List.{Contains}
use Rattle.no_calls.specs.Nearest.{IsNearest}
use Rattle.no_calls.proofs.nearest.nearest_of.Given as goal

abbrev pub invariant-loop-member : goal.invariant-loop-member
invariant-loop-member l = IsNearest (Contains (take l.member-index l.members)) l.far l.best
