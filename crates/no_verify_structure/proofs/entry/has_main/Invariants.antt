use Rattle.std.proofs.Common.{drop, ◌≡◌}
use Rattle.std.specs.List.{list_any}
use Rattle.no_verify_structure.specs.Entry.{is_main}
use Rattle.no_verify_structure.proofs.entry.has_main.Given as goal

abbrev pub invariant-loop-function : goal.invariant-loop-function
invariant-loop-function l = list_any is_main l.functions ≡ list_any is_main (drop l.function-index l.functions)
