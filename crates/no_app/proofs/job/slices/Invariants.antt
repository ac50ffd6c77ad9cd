use Rattle.std.proofs.Common.{◌≡◌, ◌≤◌, []}
use Rattle.no_app.specs.Jobs.{work_left}
use Rattle.no_app.proofs.Jobs.{HasCounted, So}
use Rattle.no_app.proofs.job.slices.Given as goal

abbrev pub invariant-slices : goal.invariant-slices
invariant-slices g l =
    let held = g.O.Sink.held in
    let left = g.I.Source.left in
    record {
      so : So (g.E.Engine.on l.sound l.engine) (left l.fn.input) (left l.input) (held l.fn.out) (held l.out) l.env;
      empty : l.env.output.items ≡ [];
      budget : g.E.Engine.budget l.engine ≡ g.E.Engine.budget l.fn.engine;
      reads : g.I.Source.faults l.fn.input ≤ g.I.Source.faults l.input;
      later : g.O.Sink.faults l.fn.out ≤ g.O.Sink.faults l.out;
      counts : HasCounted l.fn.steps l.steps (g.E.Engine.count l.engine);
    }

abbrev pub decreases-slices : goal.decreases-slices
decreases-slices g l = work_left (g.E.Engine.budget l.engine) (g.E.Engine.count l.engine) l.env
