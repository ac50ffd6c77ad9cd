use Rattle.std.proofs.Common.{rules, ◌≡◌, ◌^◌, ◌<◌, ◌∙◌, length, refl, sym, subst, arith}
use Rattle.no_semantics.specs.Acting.{step}
use Rattle.no_machine.specs.Ran.{Takes, count_of, left_of, program_of}
use Rattle.no_machine.specs.declared.machine.StepAnswer.{StepAnswer}
use Rattle.no_machine.proofs.Stepping.{kept_first, kept_for, kept_lacks, kept_wider, row_counts, row_kept, row_takes, slots_less}
use Rattle.no_machine.proofs.Staying.{made_still, rest_core, stays_here, stays_then, stays_wider}
use Rattle.no_machine.proofs.machine.Machine.take_row.Goals as goal

pub rows-init : goal.rows-init
rows-init g c = record {
  made = c.requires.made;
  counted = refl;
  running = c.requires.running;
  stays = stays_here g.M.Memory.regions g.M.Memory.held c.args.self.now;
  same_end = refl;
  kept = λ more s from. kept_first g.M.Memory.byte g.M.Memory.held (program_of g.M.Memory.regions c.args.sound.now c.args.self.now) c.args.self.now c.args.env.now more s c.requires.running from;
}

pub burst-told-requires-clause-within : goal.burst-told-requires-clause-within
burst-told-requires-clause-within g c = (let inv = c.rows.invariant in omega (arith, c.requires.within, inv.counted, inv.stays.budget))

pub burst-told-requires-clause-at : goal.burst-told-requires-clause-at
burst-told-requires-clause-at g c =
    let inv = c.rows.invariant in
    kept_for g.M.Memory.byte g.M.Memory.held g.M.Memory.regions c.args.sound.now c.args.self.now c.rows.self c.args.env.now c.rows.env inv.stays inv.kept c.requires.at

-- slots are added
pub returns-then-not-widen : goal.returns-then-not-widen
returns-then-not-widen g c =
    let inv = c.rows.invariant in
    let room = row_kept g.M.Memory.byte g.M.Memory.held g.M.Memory.regions c.args.sound.now c.requires.made.facts.marks c.args.self.now c.rows.self c.burst-told.new.self c.args.env.now c.rows.env c.burst-told.new.env c.burst-told.result inv.stays inv.kept c.burst-told.ensures.burst c.burst-told.ensures.ended c.in-Room.is in
    let count : count_of c.burst-told.new.self ≡ count_of c.args.self.now = (room c.requires.at.1 c.requires.at.0 c.requires.at.2).counted in
    record {
      takes = λ more s from. kept_lacks g.M.Memory.byte g.M.Memory.held (program_of g.M.Memory.regions c.args.sound.now c.args.self.now) c.args.self.now (record c.burst-told.new.self { core = c.widen.new.self }) c.args.env.now c.burst-told.new.env more s (step (program_of g.M.Memory.regions c.args.sound.now c.args.self.now) (left_of c.args.self.now) s)
          (kept_wider g.M.Memory.byte g.M.Memory.held (program_of g.M.Memory.regions c.args.sound.now c.args.self.now) c.args.self.now c.burst-told.new.self (record c.burst-told.new.self { core = c.widen.new.self }) c.args.env.now c.burst-told.new.env more s (room more s from) refl c.widen.ensures.grows);
      made = made_still c.args.sound.now c.burst-told.new.self (record c.burst-told.new.self { core = c.widen.new.self }) (rest_core c.burst-told.new.self (record c.burst-told.new.self { core = c.widen.new.self }) refl) c.burst-told.ensures.made;
      stays = stays_then g.M.Memory.regions g.M.Memory.held c.args.self.now c.burst-told.new.self (record c.burst-told.new.self { core = c.widen.new.self }) (stays_then g.M.Memory.regions g.M.Memory.held c.args.self.now c.rows.self c.burst-told.new.self inv.stays c.burst-told.ensures.stays)
          (stays_wider g.M.Memory.regions g.M.Memory.held c.burst-told.new.self (record c.burst-told.new.self { core = c.widen.new.self }) refl c.widen.ensures.grows);
      within = omega (arith, count, c.requires.within, c.burst-told.ensures.stays.budget, inv.stays.budget);
      later = omega (arith, count);
      same_end = c.burst-told.ensures.ended ∙ inv.same_end;
    }

pub rows-smaller : goal.rows-smaller
rows-smaller g c =
    let small : length c.rows.self.core.slots.items < 2 ^ 64 = search rules in
    let wider : length c.rows.self.core.slots.items < length c.widen.new.self.slots.items = omega (arith, c.burst-told.ensures.long, c.widen.ensures.wider c.if-not-widen.false) in
    slots_less (length c.rows.self.core.slots.items) (length c.widen.new.self.slots.items) wider small

pub rows-preserved : goal.rows-preserved
rows-preserved g c =
    let inv = c.rows.invariant in
    let room = row_kept g.M.Memory.byte g.M.Memory.held g.M.Memory.regions c.args.sound.now c.requires.made.facts.marks c.args.self.now c.rows.self c.burst-told.new.self c.args.env.now c.rows.env c.burst-told.new.env c.burst-told.result inv.stays inv.kept c.burst-told.ensures.burst c.burst-told.ensures.ended c.in-Room.is in
    let there = room c.requires.at.1 c.requires.at.0 c.requires.at.2 in
    record {
      made = made_still c.args.sound.now c.burst-told.new.self (record c.burst-told.new.self { core = c.widen.new.self }) (rest_core c.burst-told.new.self (record c.burst-told.new.self { core = c.widen.new.self }) refl) c.burst-told.ensures.made;
      counted = there.counted;
      running = there.running;
      stays = stays_then g.M.Memory.regions g.M.Memory.held c.args.self.now c.burst-told.new.self (record c.burst-told.new.self { core = c.widen.new.self }) (stays_then g.M.Memory.regions g.M.Memory.held c.args.self.now c.rows.self c.burst-told.new.self inv.stays c.burst-told.ensures.stays)
          (stays_wider g.M.Memory.regions g.M.Memory.held c.burst-told.new.self (record c.burst-told.new.self { core = c.widen.new.self }) refl c.widen.ensures.grows);
      same_end = c.burst-told.ensures.ended ∙ inv.same_end;
      kept = λ more s from. kept_wider g.M.Memory.byte g.M.Memory.held (program_of g.M.Memory.regions c.args.sound.now c.args.self.now) c.args.self.now c.burst-told.new.self (record c.burst-told.new.self { core = c.widen.new.self }) c.args.env.now c.burst-told.new.env more s (room more s from) refl c.widen.ensures.grows;
    }

-- no further
pub returns-in_default : goal.returns-in_default
returns-in_default g c =
    let inv = c.rows.invariant in
    let counts = row_counts g.M.Memory.byte g.M.Memory.held g.M.Memory.regions c.args.sound.now c.requires.made.facts.marks c.args.self.now c.rows.self c.burst-told.new.self c.args.env.now c.rows.env c.burst-told.new.env c.burst-told.result inv.stays inv.kept c.burst-told.ensures.burst c.burst-told.ensures.ended c.requires.at in
    record {
      takes = λ more s from. subst (λ (x : StepAnswer). Takes g.M.Memory.byte g.M.Memory.held (program_of g.M.Memory.regions c.args.sound.now c.args.self.now) s (step (program_of g.M.Memory.regions c.args.sound.now c.args.self.now) (left_of c.args.self.now) s) more x c.args.self.now c.burst-told.new.self c.args.env.now c.burst-told.new.env) (sym c.answer_of.ensures)
          (row_takes g.M.Memory.byte g.M.Memory.held g.M.Memory.regions c.args.sound.now c.requires.made.facts.marks c.args.self.now c.rows.self c.burst-told.new.self c.args.env.now c.rows.env c.burst-told.new.env c.burst-told.result inv.stays inv.kept c.burst-told.ensures.burst c.burst-told.ensures.ended c.in_default.not-Room more s from);
      made = c.burst-told.ensures.made;
      stays = stays_then g.M.Memory.regions g.M.Memory.held c.args.self.now c.rows.self c.burst-told.new.self inv.stays c.burst-told.ensures.stays;
      within = omega (arith, counts.1, inv.counted, c.requires.within, c.burst-told.ensures.stays.budget, inv.stays.budget);
      later = omega (arith, counts.0, inv.counted);
      same_end = c.burst-told.ensures.ended ∙ inv.same_end;
    }
