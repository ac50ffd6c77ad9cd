use Rattle.std.proofs.Common.{◌∙◌}
use Rattle.no_profile.proofs.Numbering.{found_known, names_stay, numbers_grow, numbers_stay}
use Rattle.no_profile.proofs.selecting.Defined.add.Goals as goal

pub returns-then-is_some-clause-names : goal.returns-then-is_some-clause-names
returns-then-is_some-clause-names c = names_stay _ c.args.name.now (found_known _ c.args.name.now _ _ c.find.ensures c.is_some.ensures ∙ c.if-is_some.true)

pub returns-then-is_some-clause-numbers : goal.returns-then-is_some-clause-numbers
returns-then-is_some-clause-numbers c = numbers_stay _ c.args.name.now _ c.args.k (found_known _ c.args.name.now _ _ c.find.ensures c.is_some.ensures ∙ c.if-is_some.true)

pub returns-clause-numbers : goal.returns-clause-numbers
returns-clause-numbers c = c.in_ok-push.ensures.items ∙ numbers_grow _ c.args.name.now _ c.args.k (found_known _ c.args.name.now _ _ c.find.ensures c.is_some.ensures ∙ c.if-is_some.false)
