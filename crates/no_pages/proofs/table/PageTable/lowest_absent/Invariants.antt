use Rattle.std.proofs.Common.{◌≡◌, ◌+◌, ◌-◌}
use Rattle.no_layout.specs.Memory.{first_absent}
use Rattle.no_pages.specs.Table.{held_of}
use Rattle.no_pages.proofs.table.PageTable.lowest_absent.Given as goal

abbrev pub invariant-loop-step : goal.invariant-loop-step
invariant-loop-step l = first_absent (held_of l.self) l.first l.count ≡ first_absent (held_of l.self) (l.first + l.step) (l.count - l.step)
