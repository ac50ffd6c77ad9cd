use Rattle.std.proofs.Common.{◌≡◌, drop}
use Rattle.no_read_toplevel.specs.Grouping.{set_by_all}
use Rattle.no_read_toplevel.proofs.groups.set_by_all.Given as goal

abbrev pub invariant-loop-mark : goal.invariant-loop-mark
invariant-loop-mark l = set_by_all l.settings (drop l.mark-index l.marks) ≡ set_by_all l.fn.start l.marks
