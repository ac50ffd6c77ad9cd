use Rattle.std.proofs.Common.{ℕ, List, refl}
use Rattle.no_app.specs.Outcomes.{Flow, Idle, RunsText, WritesText, outcome_of_job}
use Rattle.no_app.proofs.Jobs.{input_more}
use Rattle.no_app.proofs.Outcomes.{JobRan, goes_on_same, job_ran, no_refusal, ran_part, refused_part, refused_ran}
use Rattle.no_app.proofs.top.run_text.Goals as goal

pub returns-in-Ok-clause-says : goal.returns-in-Ok-clause-says
returns-in-Ok-clause-says g c =
    let flow : Flow = record {
      held = g.O.Sink.held c.args.out.now;
      held' = g.O.Sink.held c.local_job.new.out;
      counted = c.args.steps.now;
      counted' = c.local_job.new.steps;
      ins = g.I.Source.faults c.args.input.now;
      ins' = g.I.Source.faults c.local_job.new.input;
      outs = g.O.Sink.faults c.args.out.now;
      outs' = g.O.Sink.faults c.local_job.new.out;
    } in
    let ran = input_more (λ (given : List ℕ). JobRan c.local_job.result flow given c.args.budget c.in-Ok.sound)
    (λ (given : List ℕ). RunsText (outcome_of_job c.local_job.result) flow given c.args.budget c.args.text.now) (g.I.Source.left c.args.input.now)
    (λ given are on. job_ran c.local_job.result flow given c.args.budget c.args.text.now c.in-Ok.sound c.in-Ok.ensures.loads on c.local_job.ensures.read c.local_job.ensures.fault)
    c.local_job.ensures.run in
    rw c.job_outcome.ensures ran

pub returns-in-Ok-clause-part : goal.returns-in-Ok-clause-part
returns-in-Ok-clause-part g c =
    let flow : Flow = record {
      held = g.O.Sink.held c.args.out.now;
      held' = g.O.Sink.held c.local_job.new.out;
      counted = c.args.steps.now;
      counted' = c.local_job.new.steps;
      ins = g.I.Source.faults c.args.input.now;
      ins' = g.I.Source.faults c.local_job.new.input;
      outs = g.O.Sink.faults c.args.out.now;
      outs' = g.O.Sink.faults c.local_job.new.out;
    } in
    input_more (λ (given : List ℕ). JobRan c.local_job.result flow given c.args.budget c.in-Ok.sound)
    (λ (given : List ℕ). WritesText flow given c.args.budget c.args.text.now) (g.I.Source.left c.args.input.now)
    (λ given are on. ran_part c.local_job.result flow given c.args.budget c.args.text.now c.in-Ok.sound c.in-Ok.ensures.only on)
    c.local_job.ensures.run

pub returns-in-Ok-clause-untouched : goal.returns-in-Ok-clause-untouched
returns-in-Ok-clause-untouched g c = λ refusal. absurd (no_refusal c.local_job.result (rw c.job_outcome.ensures at refusal))

pub returns-in-Err-clause-says : goal.returns-in-Err-clause-says
returns-in-Err-clause-says g c =
    let flow : Flow = record {
      held = g.O.Sink.held c.args.out.now;
      held' = g.O.Sink.held c.args.out.now;
      counted = c.args.steps.now;
      counted' = c.args.steps.now;
      ins = g.I.Source.faults c.args.input.now;
      ins' = g.I.Source.faults c.args.input.now;
      outs = g.O.Sink.faults c.args.out.now;
      outs' = g.O.Sink.faults c.args.out.now;
    } in
    let idle : Idle flow = record { wrote = refl; counts = refl } in
    rw c.refused_outcome.ensures (refused_ran c.in-Err.refusal flow (g.I.Source.left c.args.input.now) c.args.budget c.args.text.now c.requires.bytes c.in-Err.ensures.loads idle)

pub returns-in-Err-clause-part : goal.returns-in-Err-clause-part
returns-in-Err-clause-part g c =
    let flow : Flow = record {
      held = g.O.Sink.held c.args.out.now;
      held' = g.O.Sink.held c.args.out.now;
      counted = c.args.steps.now;
      counted' = c.args.steps.now;
      ins = g.I.Source.faults c.args.input.now;
      ins' = g.I.Source.faults c.args.input.now;
      outs = g.O.Sink.faults c.args.out.now;
      outs' = g.O.Sink.faults c.args.out.now;
    } in
    let idle : Idle flow = record { wrote = refl; counts = refl } in
    refused_part flow (g.I.Source.left c.args.input.now) c.args.budget c.args.text.now c.requires.bytes idle

pub returns-in-Err-clause-input : goal.returns-in-Err-clause-input
returns-in-Err-clause-input g c = goes_on_same (g.I.Source.left c.args.input.now)
