use Rattle.std.proofs.Common.{ap, ◌∙◌}
use Rattle.std.specs.Prelude.{not}
use Rattle.no_calls.proofs.Walking.{listed_add, listed_skip}
use Rattle.no_calls.proofs.reached.list_found.Goals as goal

pub returns-then-is_none : goal.returns-then-is_none
returns-then-is_none c = λ h. listed_skip c.args.far.now c.args.k c.args.ks.now (c.is_none.ensures ∙ ap not c.if-is_none.true) h

pub returns : goal.returns
returns c = λ h. listed_add c.args.far.now c.args.k c.args.ks.now c.push.new.self (c.is_none.ensures ∙ ap not c.if-is_none.false) c.in_ok-push.ensures.ok h
