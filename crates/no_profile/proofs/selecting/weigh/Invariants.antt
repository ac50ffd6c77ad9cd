use Rattle.std.proofs.Common.{◌≡◌, List, [], drop, length, take}
use Rattle.no_ir.specs.declared.function.Function.{Function}
use Rattle.no_profile.specs.Choices.{first_unknown}
use Rattle.no_profile.specs.Numbered.{AreFlags, AreNumbered}
use Rattle.no_profile.proofs.Flags.{names}
use Rattle.no_profile.proofs.selecting.weigh.Given as goal

abbrev pub invariant-loop-line : goal.invariant-loop-line
invariant-loop-line l =
    (functions : List Function) → l.count ≡ length functions → AreNumbered functions l.defined.names l.defined.numbers.items
    → AreFlags functions l.rates (take l.line-index l.lines) l.seen.items l.worth.items × (first_unknown functions (names (take l.line-index l.lines)) (drop l.line-index l.lines) ≡ first_unknown functions [] l.lines)
