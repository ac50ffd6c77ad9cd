use Rattle.std.proofs.Common.{take, ℕ, List, Vec}
use Rattle.std.specs.Prelude.{Option}
use Rattle.std.specs.Global.{Global}
use Rattle.no_calls.specs.Nearest.{AreNearest, IsNearest}
use Rattle.no_calls.specs.Spreading.{Reason}
use Rattle.no_calls.proofs.nearest.nearest_in.Given as goal

abbrev pub invariant-loop-set : goal.invariant-loop-set
invariant-loop-set l = (members : List (Vec ℕ Global)) (far : List (Option ℕ)) → AreNearest members far l.near → IsNearest (Reason (take l.set-index l.sets) members) far l.best
