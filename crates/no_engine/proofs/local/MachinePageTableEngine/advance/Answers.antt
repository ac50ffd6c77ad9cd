use Rattle.std.proofs.Common.{refl}
use Rattle.no_engine.proofs.Ways.{counts_some, ended, had_none, never_stuck, none_wanted, same_end_of, short, stepped, wanted, wants_none}
use Rattle.no_engine.proofs.local.MachinePageTableEngine.advance.Goals as goal

pub unreachable-requires : goal.unreachable-requires
unreachable-requires g c =
    let on = c.requires.on.3 in
    none_wanted c.args.sound.now c.args.limit c.in-WantPage.field-0 c.args.self.now c.run.new.self c.args.env.now c.run.new.env (c.in-WantPage.ensures.ran on.stands.going) c.run.ensures.stays
    (c.in-WantPage.ensures.inside c.in-WantPage.field-0 refl) _ _ _ on

pub unreachable-requires-in-Stuck : goal.unreachable-requires-in-Stuck
unreachable-requires-in-Stuck g c =
    let on = c.requires.on.3 in
    never_stuck c.args.sound.now c.args.limit c.args.self.now c.run.new.self c.args.env.now c.run.new.env (c.in-Stuck.ensures.ran on.stands.going) _ _ _ on

pub returns-in-Stepped-clause-came : goal.returns-in-Stepped-clause-came
returns-in-Stepped-clause-came g c = λ more given flushed on.
    stepped c.args.sound.now c.args.limit c.args.self.now c.run.new.self c.args.env.now c.run.new.env (c.in-Stepped.ensures.ran on.stands.going) c.run.ensures.stays c.run.ensures.within c.run.ensures.made more given flushed on

pub returns-in-Stepped-clause-steps : goal.returns-in-Stepped-clause-steps
returns-in-Stepped-clause-steps g c = λ told.
    let on = c.requires.on.3 in
    counts_some c.args.sound.now c.args.limit c.args.self.now c.run.new.self c.args.env.now c.run.new.env c.requires.some (c.in-Stepped.ensures.ran on.stands.going) _ _ _ on

pub returns-in-Stepped-clause-same_end : goal.returns-in-Stepped-clause-same_end
returns-in-Stepped-clause-same_end g c =
    let on = c.requires.on.3 in
    same_end_of c.args.sound.now c.args.limit _ c.args.self.now c.run.new.self c.args.env.now c.run.new.env (c.in-Stepped.ensures.ran on.stands.going) _ _ _ on

pub returns-in-WantInput-clause-came : goal.returns-in-WantInput-clause-came
returns-in-WantInput-clause-came g c = λ more given flushed on.
    wanted c.args.sound.now c.args.limit c.args.self.now c.run.new.self c.args.env.now c.run.new.env (c.in-WantInput.ensures.ran on.stands.going) c.run.ensures.stays c.run.ensures.within c.run.ensures.made more given flushed on

pub returns-in-WantInput-clause-wants : goal.returns-in-WantInput-clause-wants
returns-in-WantInput-clause-wants g c = λ told.
    let on = c.requires.on.3 in
    let ran = c.in-WantInput.ensures.ran on.stands.going in
    let dry = wants_none c.args.sound.now c.args.limit c.args.self.now c.run.new.self c.args.env.now c.run.new.env ran _ _ _ on in
    (dry.0, dry.1, had_none c.args.sound.now c.args.limit c.args.self.now c.run.new.self c.args.env.now c.run.new.env ran _ _ _ on)

pub returns-in-WantInput-clause-same_end : goal.returns-in-WantInput-clause-same_end
returns-in-WantInput-clause-same_end g c =
    let on = c.requires.on.3 in
    same_end_of c.args.sound.now c.args.limit _ c.args.self.now c.run.new.self c.args.env.now c.run.new.env (c.in-WantInput.ensures.ran on.stands.going) _ _ _ on

pub returns-in-Ended-clause-came : goal.returns-in-Ended-clause-came
returns-in-Ended-clause-came g c = λ more given flushed on.
    (ended c.args.sound.now c.args.limit c.in-Ended.end c.args.self.now c.run.new.self c.args.env.now c.run.new.env (c.in-Ended.ensures.ran on.stands.going) c.run.ensures.stays more given flushed on, tt)

pub returns-in-Ended-clause-same_end : goal.returns-in-Ended-clause-same_end
returns-in-Ended-clause-same_end g c =
    let on = c.requires.on.3 in
    same_end_of c.args.sound.now c.args.limit _ c.args.self.now c.run.new.self c.args.env.now c.run.new.env (c.in-Ended.ensures.ran on.stands.going) _ _ _ on

pub returns-in-NoMemory-clause-came : goal.returns-in-NoMemory-clause-came
returns-in-NoMemory-clause-came g c = λ more given flushed on.
    short c.args.sound.now c.args.limit c.args.self.now c.run.new.self c.args.env.now c.run.new.env (c.in-NoMemory.ensures.ran on.stands.going) c.run.ensures.stays c.run.ensures.within c.run.ensures.made more given flushed on

pub returns-in-NoMemory-clause-same_end : goal.returns-in-NoMemory-clause-same_end
returns-in-NoMemory-clause-same_end g c =
    let on = c.requires.on.3 in
    same_end_of c.args.sound.now c.args.limit _ c.args.self.now c.run.new.self c.args.env.now c.run.new.env (c.in-NoMemory.ensures.ran on.stands.going) _ _ _ on
