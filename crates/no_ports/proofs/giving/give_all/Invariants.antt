use Rattle.std.proofs.Common.{◌≤◌, ◌-◌, length, take}
use Rattle.no_ports.specs.Meanings.{Adds}
use Rattle.no_ports.proofs.giving.give_all.Given as goal

-- the first bytes were given, and the count has not fallen
abbrev pub invariant-loop-at : goal.invariant-loop-at
invariant-loop-at g l =
    let held = g.O.Sink.held in
    let faults = g.O.Sink.faults in
    record {
      within : l.at ≤ length l.bytes;
      given : Adds (held l.fn.out) (held l.out) (take l.at l.bytes);
      later : faults l.fn.out ≤ faults l.out;
    }

abbrev pub decreases-loop-at : goal.decreases-loop-at
decreases-loop-at g l = length l.bytes - l.at
