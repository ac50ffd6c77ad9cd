use Rattle.std.proofs.Common.{◌∙◌, sym}
use Rattle.no_machine.specs.declared.machine.StepAnswer.TheVariants as answer
use Rattle.no_cases.proofs.Standing.{may_run, ready, waited}
use Rattle.no_cases.proofs.machine.wait.Goals as goal

pub run-answer-requires-clause-at : goal.run-answer-requires-clause-at
run-answer-requires-clause-at g c = may_run c.args.sound.now c.args.machine.now c.args.env.now (ready c.args.sound.now c.args.machine.now c.args.env.now c.requires)

pub returns-in-WantPage : goal.returns-in-WantPage
returns-in-WantPage g c =
    waited c.args.sound.now c.args.limit c.args.machine.now c.run-answer.new.self c.args.env.now c.run-answer.new.env c.run-answer.ensures.stays (answer.WantPage c.in-WantPage.field-0) c.requires c.in-WantPage.ensures.ran
    c.run-answer.ensures.made tt (sym c.count.ensures ∙ c.if-count-ne0.false)
