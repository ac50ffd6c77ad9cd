use Rattle.no_cases.proofs.Standing.{may_run, turned}
use Rattle.no_cases.proofs.machine.turn.Goals as goal

pub run-requires-clause-at : goal.run-requires-clause-at
run-requires-clause-at g c = may_run c.args.sound.now c.args.machine.now c.args.env.now c.requires

pub returns-in_default : goal.returns-in_default
returns-in_default g c =
    turned c.args.sound.now c.args.limit c.args.machine.now c.run.new.self c.args.env.now c.run.new.env c.run.ensures.stays c.run.result c.requires c.run.ensures.ran c.run.ensures.over c.run.ensures.within c.run.ensures.made
    c.in_default.not-Stuck
