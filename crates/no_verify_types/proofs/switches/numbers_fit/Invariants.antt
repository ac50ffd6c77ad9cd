use Rattle.std.proofs.Common.{◌≡◌, ◌^◌, drop, nat_lt}
use Rattle.std.specs.List.{list_all}
use Rattle.no_verify_types.specs.Typing.{case_numbers}
use Rattle.no_verify_types.proofs.switches.numbers_fit.Given as goal

abbrev pub invariant-loop-case : goal.invariant-loop-case
invariant-loop-case l = list_all (λ n. nat_lt n (2 ^ l.width)) (case_numbers l.cases) ≡ list_all (λ n. nat_lt n (2 ^ l.width)) (case_numbers (drop l.case-index l.cases))
