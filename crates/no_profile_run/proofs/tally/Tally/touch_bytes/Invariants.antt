use Rattle.std.proofs.Common.{◌≡◌, ◌-◌}
use Rattle.no_profile_run.proofs.Touches.{HasTouched}
use Rattle.no_profile_run.proofs.tally.Tally.touch_bytes.Given as goal

abbrev pub invariant-loop-page : goal.invariant-loop-page
invariant-loop-page l = record { told : HasTouched l.fn.self l.self l.first (l.page - l.first); counters : l.self.counters ≡ l.fn.self.counters }
