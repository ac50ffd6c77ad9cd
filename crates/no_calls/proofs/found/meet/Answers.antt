use Rattle.std.proofs.Common.{refl, sym, ◌∙◌}
use Rattle.no_calls.proofs.Finding.{found_here, found_set, none_here, noted_new}
use Rattle.no_calls.proofs.found.meet.Goals as goal

pub returns-then-is_some-clause-there : goal.returns-then-is_some-clause-there
returns-then-is_some-clause-there c = found_here c.args.found.now.far.items c.args.number c.index.result.now c.requires c.index.ensures (sym c.is_some.ensures ∙ c.if-is_some.true)

pub returns-clause-noted : goal.returns-clause-noted
returns-clause-noted c =
    noted_new c.args.found.now _ c.args.number c.args.level c.requires (none_here c.args.found.now.far.items c.args.number c.index.result.now c.requires c.index.ensures (sym c.is_some.ensures ∙ c.if-is_some.false)) refl c.in_ok-push.ensures.items

pub returns-clause-there : goal.returns-clause-there
returns-clause-there c = found_set c.args.found.now.far.items c.args.number c.args.level c.requires
