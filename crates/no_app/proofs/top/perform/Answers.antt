use Rattle.std.proofs.Common.{refl}
use Rattle.no_app.specs.Words.{asked_of}
use Rattle.no_app.specs.Outcomes.{Around}
use Rattle.no_app.specs.Requests.{request_of}
use Rattle.no_app.proofs.Outcomes.{says_text, part_text, idle_writes}
use Rattle.no_app.proofs.top.perform.Goals as goal

pub returns-in-Done-clause-says : goal.returns-in-Done-clause-says
returns-in-Done-clause-says g c =
    let holds = rw c.as_str.ensures at c.in-Done.ensures.read.1 in
    let runs = rw c.deref.ensures.value at c.run_text.ensures.says in
    says_text c.run_text.result _ (request_of c.in-Some.request) _ c.in-Some.ensures.value holds runs

pub returns-in-Done-clause-part : goal.returns-in-Done-clause-part
returns-in-Done-clause-part g c =
    let holds = rw c.as_str.ensures at c.in-Done.ensures.read.1 in
    let runs = rw c.deref.ensures.value at c.run_text.ensures.part in
    let around : Around = record {
      job = asked_of c.args.words.now;
      contents = g.F.Files.contents c.args.files.now;
      input = g.I.Source.left c.args.input.now;
      flow = record {
        held = g.O.Sink.held c.args.out.now;
        held' = g.O.Sink.held c.run_text.new.out;
        counted = c.args.steps.now;
        counted' = c.run_text.new.steps;
        ins = g.I.Source.faults c.args.input.now;
        ins' = g.I.Source.faults c.run_text.new.input;
        outs = g.O.Sink.faults c.args.out.now;
        outs' = g.O.Sink.faults c.run_text.new.out;
      };
      faults = g.F.Files.faults c.args.files.now;
      faults' = g.F.Files.faults c.read.new.self;
    } in
    part_text around (request_of c.in-Some.request) _ _ c.in-Some.ensures.value holds runs

pub returns-in-Failed-clause-part : goal.returns-in-Failed-clause-part
returns-in-Failed-clause-part g c =
    let around : Around = record {
      job = asked_of c.args.words.now;
      contents = g.F.Files.contents c.args.files.now;
      input = g.I.Source.left c.args.input.now;
      flow = record {
        held = g.O.Sink.held c.args.out.now;
        held' = g.O.Sink.held c.args.out.now;
        counted = c.args.steps.now;
        counted' = c.args.steps.now;
        ins = g.I.Source.faults c.args.input.now;
        ins' = g.I.Source.faults c.args.input.now;
        outs = g.O.Sink.faults c.args.out.now;
        outs' = g.O.Sink.faults c.args.out.now;
      };
      faults = g.F.Files.faults c.args.files.now;
      faults' = g.F.Files.faults c.read.new.self;
    } in
    idle_writes around (asked_of c.args.words.now) c.requires (record { wrote = refl; counts = refl })

pub returns-clause-part : goal.returns-clause-part
returns-clause-part g c =
    let around : Around = record {
      job = asked_of c.args.words.now;
      contents = g.F.Files.contents c.args.files.now;
      input = g.I.Source.left c.args.input.now;
      flow = record {
        held = g.O.Sink.held c.args.out.now;
        held' = g.O.Sink.held c.args.out.now;
        counted = c.args.steps.now;
        counted' = c.args.steps.now;
        ins = g.I.Source.faults c.args.input.now;
        ins' = g.I.Source.faults c.args.input.now;
        outs = g.O.Sink.faults c.args.out.now;
        outs' = g.O.Sink.faults c.args.out.now;
      };
      faults = g.F.Files.faults c.args.files.now;
      faults' = g.F.Files.faults c.read.new.self;
    } in
    idle_writes around (asked_of c.args.words.now) c.requires (record { wrote = refl; counts = refl })
