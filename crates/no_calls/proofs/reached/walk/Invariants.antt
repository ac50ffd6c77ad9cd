use Rattle.std.proofs.Common.{◌≡◌, ◌-◌, ◌<◌, ℕ, List, Vec, length}
use Rattle.std.specs.Prelude.{Option, Some}
use Rattle.std.specs.Global.{Global}
use Rattle.no_calls.specs.Nearest.{AreNearest}
use Rattle.no_calls.specs.Spreading.{Towards, at}
use Rattle.no_calls.proofs.Walking.{Gone}
use Rattle.no_calls.proofs.reached.walk.Given as goal

abbrev pub invariant-loop : goal.invariant-loop
invariant-loop l = (members : List (Vec ℕ Global)) (far : List (Option ℕ)) (goals : List ℕ) → Towards l.uses members goals far → AreNearest members far l.near → at far l.from ≡ Some l.distance → l.from < length l.uses → Gone l.uses members goals far l.from l.here (l.distance - l.counter) l.way
