use Rattle.std.proofs.Common.{drop, ◌≡◌}
use Rattle.std.specs.List.{list_all}
use Rattle.no_verify_structure.specs.Names.{is_in}
use Rattle.no_verify_structure.proofs.numbers.Numbers.are_in.Given as goal

abbrev pub invariant-loop-number : goal.invariant-loop-number
invariant-loop-number l = list_all (is_in l.others) l.self ≡ list_all (is_in l.others) (drop l.number-index l.number-items)
