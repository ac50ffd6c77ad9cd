use Rattle.std.proofs.Common.{◌≡◌, drop}
use Rattle.std.specs.BTreeSet.{contains}
use Rattle.std.specs.Ordering.{nat_cmp}
use Rattle.no_verify_types.specs.Typing.{all_differ, case_numbers}
use Rattle.no_verify_types.proofs.Differ.{all_new}
use Rattle.no_verify_types.proofs.switches.all_differ.Given as goal

abbrev pub invariant-loop-case : goal.invariant-loop-case
invariant-loop-case l = all_new (contains nat_cmp l.seen) (case_numbers (drop l.case-index l.cases)) ≡ all_differ (case_numbers l.cases)
