use Rattle.std.proofs.Common.{◌≡◌, drop}
use Rattle.std.specs.List.{list_any}
use Rattle.no_print.specs.Modules.{has_inserted}
use Rattle.no_print.proofs.printing.any_inserted.Given as goal

abbrev pub invariant-loop-f : goal.invariant-loop-f
invariant-loop-f l = list_any has_inserted l.functions ≡ list_any has_inserted (drop l.f-index l.functions)
