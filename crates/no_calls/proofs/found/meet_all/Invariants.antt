use Rattle.std.proofs.Common.{take}
use Rattle.std.specs.List.{Contains}
use Rattle.no_calls.specs.Spreading.{AreFound, Noted}
use Rattle.no_calls.proofs.found.meet_all.Given as goal

abbrev pub invariant-loop-member : goal.invariant-loop-member
invariant-loop-member l = record { noted : Noted (Contains l.members) l.level l.fn.found l.found; there : AreFound (take l.member-index l.members) l.found }
