use Rattle.std.proofs.Common.{◌≡◌}
use Rattle.no_read_toplevel.specs.Gathered.{gathered}
use Rattle.no_read_toplevel.specs.Grouping.{found_in}
use Rattle.no_read_toplevel.specs.Modules.{module_of}
use Rattle.no_read_toplevel.proofs.modules.module_of.Given as goal

abbrev pub invariant-loop-top : goal.invariant-loop-top
invariant-loop-top l = gathered l.text (found_in l.groups) l.«module» l.top-iterator.rest.items ≡ module_of l.fn.text l.fn.types l.fn.forms.items
