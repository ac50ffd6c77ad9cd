use Rattle.std.proofs.Common.{◌≡◌, drop}
use Rattle.no_read_toplevel.specs.Grouping.{nothing_set, found_in}
use Rattle.no_read_toplevel.specs.Modules.{with_marks}
use Rattle.no_read_toplevel.proofs.groups.with_marks.Given as goal

abbrev pub invariant-loop-mark : goal.invariant-loop-mark
invariant-loop-mark l = with_marks l.text (found_in l.groups) l.settings (drop l.mark-index l.marks) ≡ with_marks l.text (found_in l.groups) nothing_set l.marks
