use Rattle.std.proofs.Common.{◌∙◌, ℕ, List, refl, ap, arith}
use Rattle.no_lib.specs.declared.env.Env.{Env}
use Rattle.no_engine.specs.declared.engine.Slice.TheVariants as slice
use Rattle.no_app.specs.Jobs.{report_alone}
use Rattle.no_app.specs.declared.job.JobEnd.TheVariants as job
use Rattle.no_app.proofs.Jobs.{adds_all, counts_more, counts_start, emptied, goes_on_twice, read_on, so_cut, so_ended, so_fed, so_flush, so_on, so_some, so_start, way_at, came_at}
use Rattle.no_app.proofs.job.slices.Goals as goal

pub slices-init : goal.slices-init
slices-init g c = record {
  so = so_start (g.E.Engine.on c.args.sound.now) g.E.Engine.count g.E.Engine.budget c.args.sound.now c.args.engine.now _ _ _ c.requires.runnable c.requires.fresh c.new.ensures c.new-2.ensures.items refl;
  empty = c.new-2.ensures.items;
  budget = refl;
  reads = omega arith;
  later = omega arith;
  counts = counts_start c.args.steps.now (g.E.Engine.count c.args.engine.now) c.requires.fresh.uncounted;
}

pub advance-answer-requires-clause-on : goal.advance-answer-requires-clause-on
advance-answer-requires-clause-on g c = so_some (g.E.Engine.on c.args.sound.now c.slices.engine) _ _ _ _ c.slices.env c.slices.invariant.so

pub slices-preserved-in-Stepped : goal.slices-preserved-in-Stepped
slices-preserved-in-Stepped g c =
    let given = rw c.deref.ensures.value at (c.in-Done.ensures.done refl) in
    let on = so_on (g.E.Engine.on c.args.sound.now c.slices.engine) (g.E.Engine.on c.args.sound.now c.advance-answer.new.self) _ _ _ _ c.slices.env c.advance-answer.new.env c.slices.invariant.so c.in-Stepped.ensures.came
    c.advance-answer.ensures.same_end in
    record {
      so = so_flush (g.E.Engine.on c.args.sound.now c.advance-answer.new.self) _ _ _ _ _ c.advance-answer.new.env c.clear.new.self (g.met.E.Engine.moves c.args.sound.now c.advance-answer.new.self) on c.clear.ensures.items given;
      empty = c.clear.ensures.items;
      budget = c.advance-answer.ensures.same ∙ c.slices.invariant.budget;
      reads = c.slices.invariant.reads;
      later = omega (arith, c.slices.invariant.later, c.give_all.ensures.later);
      counts = counts_more c.args.sound.now.role c.args.steps.now c.slices.steps c.advance-answer.new.steps _ _ c.requires.runnable.role c.advance-answer.ensures.later c.slices.invariant.counts c.advance-answer.ensures.counts;
    }

-- ---- short

pub returns-in-Failed-clause-run : goal.returns-in-Failed-clause-run
returns-in-Failed-clause-run g c =
    let given = rw c.deref.ensures.value at c.give_all.ensures.prefix in
    let counts = counts_more c.args.sound.now.role c.args.steps.now c.slices.steps c.advance-answer.new.steps _ _ c.requires.runnable.role c.advance-answer.ensures.later c.slices.invariant.counts c.advance-answer.ensures.counts in
    so_cut (g.E.Engine.on c.args.sound.now) (g.E.Engine.over c.args.sound.now) c.args.sound.now (g.E.Engine.budget c.args.engine.now) (g.E.Engine.count c.advance-answer.new.self) c.slices.engine c.advance-answer.new.self _ _ _ _ _
    c.slices.env c.advance-answer.new.env c.advance-answer.result job.WriteFault c.args.steps.now c.advance-answer.new.steps c.requires.runnable c.requires.bytes c.slices.invariant.so
    (way_at (g.E.Engine.on c.args.sound.now) g.E.Engine.budget c.args.sound.now _ _ c.advance-answer.new.self (c.advance-answer.ensures.same ∙ c.slices.invariant.budget) (g.met.E.Engine.way c.args.sound.now c.advance-answer.new.self))
    (came_at (g.E.Engine.on c.args.sound.now) (g.E.Engine.over c.args.sound.now) c.args.sound.now (g.E.Engine.budget c.advance-answer.new.self) (g.E.Engine.budget c.args.engine.now) (g.E.Engine.count c.advance-answer.new.self) c.advance-answer.result c.slices.engine c.advance-answer.new.self c.slices.env c.advance-answer.new.env (c.advance-answer.ensures.same ∙ c.slices.invariant.budget) c.advance-answer.ensures.came) tt given counts

pub returns-in-NoMemory-clause-run : goal.returns-in-NoMemory-clause-run
returns-in-NoMemory-clause-run g c =
    let given = rw c.deref.ensures.value at c.give_all.ensures.prefix in
    let counts = counts_more c.args.sound.now.role c.args.steps.now c.slices.steps c.advance-answer.new.steps _ _ c.requires.runnable.role c.advance-answer.ensures.later c.slices.invariant.counts c.advance-answer.ensures.counts in
    so_cut (g.E.Engine.on c.args.sound.now) (g.E.Engine.over c.args.sound.now) c.args.sound.now (g.E.Engine.budget c.args.engine.now) (g.E.Engine.count c.advance-answer.new.self) c.slices.engine c.advance-answer.new.self _ _ _ _ _
    c.slices.env c.advance-answer.new.env c.advance-answer.result job.NoMemory c.args.steps.now c.advance-answer.new.steps c.requires.runnable c.requires.bytes c.slices.invariant.so
    (way_at (g.E.Engine.on c.args.sound.now) g.E.Engine.budget c.args.sound.now _ _ c.advance-answer.new.self (c.advance-answer.ensures.same ∙ c.slices.invariant.budget) (g.met.E.Engine.way c.args.sound.now c.advance-answer.new.self))
    (came_at (g.E.Engine.on c.args.sound.now) (g.E.Engine.over c.args.sound.now) c.args.sound.now (g.E.Engine.budget c.advance-answer.new.self) (g.E.Engine.budget c.args.engine.now) (g.E.Engine.count c.advance-answer.new.self) c.advance-answer.result c.slices.engine c.advance-answer.new.self c.slices.env c.advance-answer.new.env (c.advance-answer.ensures.same ∙ c.slices.invariant.budget) c.advance-answer.ensures.came) tt given counts

pub returns-in-Failed-feed-clause-run : goal.returns-in-Failed-feed-clause-run
returns-in-Failed-feed-clause-run g c =
    let given = rw c.deref.ensures.value at (c.in-Done.ensures.done refl) in
    let counts = counts_more c.args.sound.now.role c.args.steps.now c.slices.steps c.advance-answer.new.steps _ _ c.requires.runnable.role c.advance-answer.ensures.later c.slices.invariant.counts c.advance-answer.ensures.counts in
    so_cut (g.E.Engine.on c.args.sound.now) (g.E.Engine.over c.args.sound.now) c.args.sound.now (g.E.Engine.budget c.args.engine.now) (g.E.Engine.count c.advance-answer.new.self) c.slices.engine c.advance-answer.new.self _ _ _ _ _
    c.slices.env c.advance-answer.new.env slice.WantInput job.ReadFault c.args.steps.now c.advance-answer.new.steps c.requires.runnable c.requires.bytes c.slices.invariant.so
    (way_at (g.E.Engine.on c.args.sound.now) g.E.Engine.budget c.args.sound.now _ _ c.advance-answer.new.self (c.advance-answer.ensures.same ∙ c.slices.invariant.budget) (g.met.E.Engine.way c.args.sound.now c.advance-answer.new.self))
    (came_at (g.E.Engine.on c.args.sound.now) (g.E.Engine.over c.args.sound.now) c.args.sound.now (g.E.Engine.budget c.advance-answer.new.self) (g.E.Engine.budget c.args.engine.now) (g.E.Engine.count c.advance-answer.new.self) slice.WantInput c.slices.engine c.advance-answer.new.self c.slices.env c.advance-answer.new.env (c.advance-answer.ensures.same ∙ c.slices.invariant.budget) c.in-WantInput.ensures.came) tt (adds_all _ _ _ given) counts

pub returns-in-NoMemory-feed-clause-run : goal.returns-in-NoMemory-feed-clause-run
returns-in-NoMemory-feed-clause-run g c =
    let given = rw c.deref.ensures.value at (c.in-Done.ensures.done refl) in
    let counts = counts_more c.args.sound.now.role c.args.steps.now c.slices.steps c.advance-answer.new.steps _ _ c.requires.runnable.role c.advance-answer.ensures.later c.slices.invariant.counts c.advance-answer.ensures.counts in
    so_cut (g.E.Engine.on c.args.sound.now) (g.E.Engine.over c.args.sound.now) c.args.sound.now (g.E.Engine.budget c.args.engine.now) (g.E.Engine.count c.advance-answer.new.self) c.slices.engine c.advance-answer.new.self _ _ _ _ _
    c.slices.env c.advance-answer.new.env slice.WantInput job.NoMemory c.args.steps.now c.advance-answer.new.steps c.requires.runnable c.requires.bytes c.slices.invariant.so
    (way_at (g.E.Engine.on c.args.sound.now) g.E.Engine.budget c.args.sound.now _ _ c.advance-answer.new.self (c.advance-answer.ensures.same ∙ c.slices.invariant.budget) (g.met.E.Engine.way c.args.sound.now c.advance-answer.new.self))
    (came_at (g.E.Engine.on c.args.sound.now) (g.E.Engine.over c.args.sound.now) c.args.sound.now (g.E.Engine.budget c.advance-answer.new.self) (g.E.Engine.budget c.args.engine.now) (g.E.Engine.count c.advance-answer.new.self) slice.WantInput c.slices.engine c.advance-answer.new.self c.slices.env c.advance-answer.new.env (c.advance-answer.ensures.same ∙ c.slices.invariant.budget) c.in-WantInput.ensures.came) tt (adds_all _ _ _ given) counts

pub returns-in-NoMemory-answer-clause-run : goal.returns-in-NoMemory-answer-clause-run
returns-in-NoMemory-answer-clause-run g c =
    let given = rw c.deref.ensures.value at (c.in-Done.ensures.done refl) in
    let counts = counts_more c.args.sound.now.role c.args.steps.now c.slices.steps c.advance-answer.new.steps _ _ c.requires.runnable.role c.advance-answer.ensures.later c.slices.invariant.counts c.advance-answer.ensures.counts in
    so_cut (g.E.Engine.on c.args.sound.now) (g.E.Engine.over c.args.sound.now) c.args.sound.now (g.E.Engine.budget c.args.engine.now) (g.E.Engine.count c.advance-answer.new.self) c.slices.engine c.advance-answer.new.self _ _ _ _ _
    c.slices.env c.advance-answer.new.env slice.NoMemory job.NoMemory c.args.steps.now c.advance-answer.new.steps c.requires.runnable c.requires.bytes c.slices.invariant.so
    (way_at (g.E.Engine.on c.args.sound.now) g.E.Engine.budget c.args.sound.now _ _ c.advance-answer.new.self (c.advance-answer.ensures.same ∙ c.slices.invariant.budget) (g.met.E.Engine.way c.args.sound.now c.advance-answer.new.self))
    (came_at (g.E.Engine.on c.args.sound.now) (g.E.Engine.over c.args.sound.now) c.args.sound.now (g.E.Engine.budget c.advance-answer.new.self) (g.E.Engine.budget c.args.engine.now) (g.E.Engine.count c.advance-answer.new.self) slice.NoMemory c.slices.engine c.advance-answer.new.self c.slices.env c.advance-answer.new.env (c.advance-answer.ensures.same ∙ c.slices.invariant.budget) c.in-NoMemory-answer.ensures.came) tt (adds_all _ _ _ given) counts

pub returns-in-Failed-feed-clause-input : goal.returns-in-Failed-feed-clause-input
returns-in-Failed-feed-clause-input g c = goes_on_twice _ _ _ (read_on _ _ c.slices.env.ended c.slices.invariant.so.read c.slices.invariant.so.reads) c.in-Failed-feed.ensures.fed

pub returns-in-NoMemory-feed-clause-input : goal.returns-in-NoMemory-feed-clause-input
returns-in-NoMemory-feed-clause-input g c = goes_on_twice _ _ _ (read_on _ _ c.slices.env.ended c.slices.invariant.so.read c.slices.invariant.so.reads) c.in-NoMemory-feed.ensures.fed

pub returns-in-Ended-clause-run : goal.returns-in-Ended-clause-run
returns-in-Ended-clause-run g c =
    let given = rw c.deref.ensures.value at (c.in-Done.ensures.done refl) in
    let counts = counts_more c.args.sound.now.role c.args.steps.now c.slices.steps c.advance-answer.new.steps _ _ c.requires.runnable.role c.advance-answer.ensures.later c.slices.invariant.counts c.advance-answer.ensures.counts in
    so_ended (g.E.Engine.on c.args.sound.now) (g.E.Engine.over c.args.sound.now) c.args.sound.now (g.E.Engine.budget c.args.engine.now) (g.E.Engine.count c.advance-answer.new.self) c.slices.engine c.advance-answer.new.self _ _ _ _ _
    c.slices.env c.advance-answer.new.env c.in-Ended.end _ c.args.steps.now c.advance-answer.new.steps c.requires.bytes c.slices.invariant.so
    (came_at (g.E.Engine.on c.args.sound.now) (g.E.Engine.over c.args.sound.now) c.args.sound.now (g.E.Engine.budget c.advance-answer.new.self) (g.E.Engine.budget c.args.engine.now) (g.E.Engine.count c.advance-answer.new.self) (slice.Ended c.in-Ended.end) c.slices.engine c.advance-answer.new.self c.slices.env c.advance-answer.new.env (c.advance-answer.ensures.same ∙ c.slices.invariant.budget) c.in-Ended.ensures.came) given (c.alone.ensures ∙ ap report_alone c.count.ensures) counts

pub slices-preserved : goal.slices-preserved
slices-preserved g c =
    let given = rw c.deref.ensures.value at (c.in-Done.ensures.done refl) in
    let moves = g.met.E.Engine.moves c.args.sound.now c.advance-answer.new.self in
    let wants = c.in-WantInput.ensures.wants refl in
    let on = so_on (g.E.Engine.on c.args.sound.now c.slices.engine) (g.E.Engine.on c.args.sound.now c.advance-answer.new.self) _ _ _ _ c.slices.env c.advance-answer.new.env c.slices.invariant.so c.in-WantInput.ensures.came
    c.advance-answer.ensures.same_end in
    let flushed = so_flush (g.E.Engine.on c.args.sound.now c.advance-answer.new.self) _ _ _ _ _ c.advance-answer.new.env c.clear.new.self moves on c.clear.ensures.items given in
    record {
      so = so_fed (g.E.Engine.on c.args.sound.now c.advance-answer.new.self) _ _ _ _ _ (emptied c.advance-answer.new.env c.clear.new.self) c.feed.new.env moves flushed wants.1 c.in-Done-feed.ensures.fed;
      empty = c.in-Done-feed.ensures.fed.output ∙ c.clear.ensures.items;
      budget = c.advance-answer.ensures.same ∙ c.slices.invariant.budget;
      reads = omega (arith, c.slices.invariant.reads, c.feed.ensures.later);
      later = omega (arith, c.slices.invariant.later, c.give_all.ensures.later);
      counts = counts_more c.args.sound.now.role c.args.steps.now c.slices.steps c.advance-answer.new.steps _ _ c.requires.runnable.role c.advance-answer.ensures.later c.slices.invariant.counts c.advance-answer.ensures.counts;
    }
