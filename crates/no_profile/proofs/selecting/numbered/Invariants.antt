use Rattle.std.proofs.Common.{◌≤◌, length, take}
use Rattle.no_profile.specs.Numbered.{AreNumbered}
use Rattle.no_profile.proofs.selecting.numbered.Given as goal

abbrev pub invariant-loop-k : goal.invariant-loop-k
invariant-loop-k l = record { numbered : AreNumbered (take l.k l.functions) l.all.names l.all.numbers.items; room : length l.all.names ≤ l.k }
