use Rattle.std.proofs.Common.{rules, ◌^◌, ◌<◌, ◌≤◌, ◌∙◌, length, refl, sym, subst, arith}
use Rattle.no_machine.specs.Ran.{HasRun, count_of, budget_of, program_of}
use Rattle.no_machine.specs.declared.machine.StepAnswer.{StepAnswer}
use Rattle.no_machine.proofs.Slicing.{count_less, counted_fits, counted_more, counted_up, gone_nowhere, gone_on, gone_room, gone_widened, lacked, other_ran, reached, room_less, stands_for}
use Rattle.no_machine.proofs.Staying.{made_still, rest_core, stays_here, stays_then, stays_wider}
use Rattle.no_machine.proofs.machine.Machine.go_on.Goals as goal

pub bursts-init : goal.bursts-init
bursts-init g c = record {
  made = c.requires.made;
  within = c.requires.within;
  later = omega arith;
  running = c.requires.running;
  stays = stays_here g.M.Memory.regions g.M.Memory.held c.args.self.now;
  gone = λ more s from. gone_nowhere g.M.Memory.byte g.M.Memory.held (program_of g.M.Memory.regions c.args.sound.now c.args.self.now) c.args.self.now c.args.env.now more s c.requires.running from;
}

pub burst-told-requires-clause-at : goal.burst-told-requires-clause-at
burst-told-requires-clause-at g c =
    let inv = c.bursts.invariant in
    stands_for g.M.Memory.byte g.M.Memory.held g.M.Memory.regions c.args.sound.now c.args.self.now c.bursts.self c.args.env.now c.bursts.env inv.stays inv.gone c.requires.at

-- the limit is reached
pub returns-then-self-start-clause-ran : goal.returns-then-self-start-clause-ran
returns-then-self-start-clause-ran g c = λ more s from.
    let inv = c.bursts.invariant in
    reached g.M.Memory.byte g.M.Memory.held (program_of g.M.Memory.regions c.args.sound.now c.args.self.now) c.args.self.now c.burst-told.new.self c.args.env.now c.burst-told.new.env more s c.args.limit
    (gone_on g.M.Memory.byte g.M.Memory.held g.M.Memory.regions c.args.sound.now c.args.self.now c.bursts.self c.burst-told.new.self c.args.env.now c.bursts.env c.burst-told.new.env c.burst-told.result inv.stays inv.within inv.gone c.to_go-most.result c.burst-told.ensures.burst c.burst-told.ensures.ended c.in-Stepped.is more s from)
    (c.burst-told.ensures.stays.budget ∙ inv.stays.budget) (counted_fits g.M.Memory.byte g.M.Memory.held g.M.Memory.regions c.args.sound.now c.args.self.now c.bursts.self c.burst-told.new.self c.args.env.now c.bursts.env c.burst-told.new.env c.burst-told.result inv.stays inv.within inv.gone c.to_go-most.result c.burst-told.ensures.burst c.burst-told.ensures.ended c.requires.at c.burst-told.ensures.stays.budget) c.if-self-start.true

pub returns-then-self-start-clause-stays : goal.returns-then-self-start-clause-stays
returns-then-self-start-clause-stays g c = (let inv = c.bursts.invariant in stays_then g.M.Memory.regions g.M.Memory.held c.args.self.now c.bursts.self c.burst-told.new.self inv.stays c.burst-told.ensures.stays)

pub returns-then-self-start-clause-within : goal.returns-then-self-start-clause-within
returns-then-self-start-clause-within g c = (let inv = c.bursts.invariant in counted_fits g.M.Memory.byte g.M.Memory.held g.M.Memory.regions c.args.sound.now c.args.self.now c.bursts.self c.burst-told.new.self c.args.env.now c.bursts.env c.burst-told.new.env c.burst-told.result inv.stays inv.within inv.gone c.to_go-most.result c.burst-told.ensures.burst c.burst-told.ensures.ended c.requires.at c.burst-told.ensures.stays.budget)

pub returns-then-self-start-clause-later : goal.returns-then-self-start-clause-later
returns-then-self-start-clause-later g c =
    let inv = c.bursts.invariant in
    let up : count_of c.bursts.self ≤ count_of c.burst-told.new.self = counted_up g.M.Memory.byte g.M.Memory.held g.M.Memory.regions c.args.sound.now c.args.self.now c.bursts.self c.burst-told.new.self c.args.env.now c.bursts.env c.burst-told.new.env c.burst-told.result inv.stays inv.within inv.gone c.to_go-most.result c.burst-told.ensures.burst c.burst-told.ensures.ended c.requires.at in
    omega (arith, inv.later, up)

pub overflow_sub-self-in-Stepped : goal.overflow_sub-self-in-Stepped
overflow_sub-self-in-Stepped g c =
    let inv = c.bursts.invariant in
    let up : count_of c.bursts.self ≤ count_of c.burst-told.new.self = counted_up g.M.Memory.byte g.M.Memory.held g.M.Memory.regions c.args.sound.now c.args.self.now c.bursts.self c.burst-told.new.self c.args.env.now c.bursts.env c.burst-told.new.env c.burst-told.result inv.stays inv.within inv.gone c.to_go-most.result c.burst-told.ensures.burst c.burst-told.ensures.ended c.requires.at in
    omega (arith, inv.later, up)

pub bursts-smaller-else-self-start : goal.bursts-smaller-else-self-start
bursts-smaller-else-self-start g c =
    let inv = c.bursts.invariant in
    let small : length c.bursts.self.core.slots.items < 2 ^ 64 = search rules in
    let less = count_less (budget_of c.bursts.self) (count_of c.bursts.self) (count_of c.burst-told.new.self) (length c.bursts.self.core.slots.items) (length c.burst-told.new.self.core.slots.items)
    (counted_more g.M.Memory.byte g.M.Memory.held g.M.Memory.regions c.args.sound.now c.args.self.now c.bursts.self c.burst-told.new.self c.args.env.now c.bursts.env c.burst-told.new.env c.burst-told.result inv.stays inv.within inv.gone c.to_go-most.result c.burst-told.ensures.burst c.burst-told.ensures.ended c.requires.at c.in-Stepped.is)
    (subst (λ (n : Rattle.std.specs.Prelude.ℕ). count_of c.burst-told.new.self ≤ n) c.burst-told.ensures.stays.budget (counted_fits g.M.Memory.byte g.M.Memory.held g.M.Memory.regions c.args.sound.now c.args.self.now c.bursts.self c.burst-told.new.self c.args.env.now c.bursts.env c.burst-told.new.env c.burst-told.result inv.stays inv.within inv.gone c.to_go-most.result c.burst-told.ensures.burst c.burst-told.ensures.ended c.requires.at c.burst-told.ensures.stays.budget)) small in
    omega (arith, less, c.burst-told.ensures.stays.budget)

pub bursts-preserved-else-self-start : goal.bursts-preserved-else-self-start
bursts-preserved-else-self-start g c =
    let inv = c.bursts.invariant in
    let up : count_of c.bursts.self ≤ count_of c.burst-told.new.self = counted_up g.M.Memory.byte g.M.Memory.held g.M.Memory.regions c.args.sound.now c.args.self.now c.bursts.self c.burst-told.new.self c.args.env.now c.bursts.env c.burst-told.new.env c.burst-told.result inv.stays inv.within inv.gone c.to_go-most.result c.burst-told.ensures.burst c.burst-told.ensures.ended c.requires.at in
    let gone = gone_on g.M.Memory.byte g.M.Memory.held g.M.Memory.regions c.args.sound.now c.args.self.now c.bursts.self c.burst-told.new.self c.args.env.now c.bursts.env c.burst-told.new.env c.burst-told.result inv.stays inv.within inv.gone c.to_go-most.result c.burst-told.ensures.burst c.burst-told.ensures.ended c.in-Stepped.is in
    record {
      made = c.burst-told.ensures.made;
      within = counted_fits g.M.Memory.byte g.M.Memory.held g.M.Memory.regions c.args.sound.now c.args.self.now c.bursts.self c.burst-told.new.self c.args.env.now c.bursts.env c.burst-told.new.env c.burst-told.result inv.stays inv.within inv.gone c.to_go-most.result c.burst-told.ensures.burst c.burst-told.ensures.ended c.requires.at c.burst-told.ensures.stays.budget;
      later = omega (arith, inv.later, up);
      running = (gone c.requires.at.1 c.requires.at.0 c.requires.at.2).running;
      stays = stays_then g.M.Memory.regions g.M.Memory.held c.args.self.now c.bursts.self c.burst-told.new.self inv.stays c.burst-told.ensures.stays;
      gone = gone;
    }

-- slots are added
pub returns-then-not-widen-clause-ran : goal.returns-then-not-widen-clause-ran
returns-then-not-widen-clause-ran g c = λ more s from.
    let inv = c.bursts.invariant in
    lacked g.M.Memory.byte g.M.Memory.held (program_of g.M.Memory.regions c.args.sound.now c.args.self.now) c.args.self.now (record c.burst-told.new.self { core = c.widen.new.self }) c.args.env.now c.burst-told.new.env more s c.args.limit
    (gone_widened g.M.Memory.byte g.M.Memory.held (program_of g.M.Memory.regions c.args.sound.now c.args.self.now) c.args.self.now c.burst-told.new.self (record c.burst-told.new.self { core = c.widen.new.self }) c.args.env.now c.burst-told.new.env refl c.widen.ensures.grows (gone_room g.M.Memory.byte g.M.Memory.held g.M.Memory.regions c.args.sound.now c.args.self.now c.bursts.self c.burst-told.new.self c.args.env.now c.bursts.env c.burst-told.new.env c.burst-told.result inv.stays inv.within inv.gone c.to_go-most.result c.burst-told.ensures.burst c.burst-told.ensures.ended c.in-Room.is) more s from)
    (c.burst-told.ensures.stays.budget ∙ inv.stays.budget) (counted_fits g.M.Memory.byte g.M.Memory.held g.M.Memory.regions c.args.sound.now c.args.self.now c.bursts.self c.burst-told.new.self c.args.env.now c.bursts.env c.burst-told.new.env c.burst-told.result inv.stays inv.within inv.gone c.to_go-most.result c.burst-told.ensures.burst c.burst-told.ensures.ended c.requires.at c.burst-told.ensures.stays.budget)

pub returns-then-not-widen-clause-stays : goal.returns-then-not-widen-clause-stays
returns-then-not-widen-clause-stays g c =
    let inv = c.bursts.invariant in
    stays_then g.M.Memory.regions g.M.Memory.held c.args.self.now c.burst-told.new.self (record c.burst-told.new.self { core = c.widen.new.self }) (stays_then g.M.Memory.regions g.M.Memory.held c.args.self.now c.bursts.self c.burst-told.new.self inv.stays c.burst-told.ensures.stays)
    (stays_wider g.M.Memory.regions g.M.Memory.held c.burst-told.new.self (record c.burst-told.new.self { core = c.widen.new.self }) refl c.widen.ensures.grows)

pub returns-then-not-widen-clause-made : goal.returns-then-not-widen-clause-made
returns-then-not-widen-clause-made g c =
    made_still c.args.sound.now c.burst-told.new.self (record c.burst-told.new.self { core = c.widen.new.self }) (rest_core c.burst-told.new.self (record c.burst-told.new.self { core = c.widen.new.self }) refl) c.burst-told.ensures.made

pub returns-then-not-widen-clause-within : goal.returns-then-not-widen-clause-within
returns-then-not-widen-clause-within g c = (let inv = c.bursts.invariant in counted_fits g.M.Memory.byte g.M.Memory.held g.M.Memory.regions c.args.sound.now c.args.self.now c.bursts.self c.burst-told.new.self c.args.env.now c.bursts.env c.burst-told.new.env c.burst-told.result inv.stays inv.within inv.gone c.to_go-most.result c.burst-told.ensures.burst c.burst-told.ensures.ended c.requires.at c.burst-told.ensures.stays.budget)

pub returns-then-not-widen-clause-later : goal.returns-then-not-widen-clause-later
returns-then-not-widen-clause-later g c =
    let inv = c.bursts.invariant in
    let up : count_of c.bursts.self ≤ count_of c.burst-told.new.self = counted_up g.M.Memory.byte g.M.Memory.held g.M.Memory.regions c.args.sound.now c.args.self.now c.bursts.self c.burst-told.new.self c.args.env.now c.bursts.env c.burst-told.new.env c.burst-told.result inv.stays inv.within inv.gone c.to_go-most.result c.burst-told.ensures.burst c.burst-told.ensures.ended c.requires.at in
    omega (arith, inv.later, up)

pub bursts-smaller : goal.bursts-smaller
bursts-smaller g c =
    let inv = c.bursts.invariant in
    let small : length c.bursts.self.core.slots.items < 2 ^ 64 = search rules in
    let wider : length c.bursts.self.core.slots.items < length c.widen.new.self.slots.items = omega (arith, c.burst-told.ensures.long, c.widen.ensures.wider c.if-not-widen.false) in
    let less = room_less (budget_of c.bursts.self) (count_of c.bursts.self) (count_of c.burst-told.new.self) (length c.bursts.self.core.slots.items) (length c.widen.new.self.slots.items)
    (counted_up g.M.Memory.byte g.M.Memory.held g.M.Memory.regions c.args.sound.now c.args.self.now c.bursts.self c.burst-told.new.self c.args.env.now c.bursts.env c.burst-told.new.env c.burst-told.result inv.stays inv.within inv.gone c.to_go-most.result c.burst-told.ensures.burst c.burst-told.ensures.ended c.requires.at)
    (subst (λ (n : Rattle.std.specs.Prelude.ℕ). count_of c.burst-told.new.self ≤ n) c.burst-told.ensures.stays.budget (counted_fits g.M.Memory.byte g.M.Memory.held g.M.Memory.regions c.args.sound.now c.args.self.now c.bursts.self c.burst-told.new.self c.args.env.now c.bursts.env c.burst-told.new.env c.burst-told.result inv.stays inv.within inv.gone c.to_go-most.result c.burst-told.ensures.burst c.burst-told.ensures.ended c.requires.at c.burst-told.ensures.stays.budget)) wider small in
    omega (arith, less, c.burst-told.ensures.stays.budget)

pub bursts-preserved : goal.bursts-preserved
bursts-preserved g c =
    let inv = c.bursts.invariant in
    let up : count_of c.bursts.self ≤ count_of c.burst-told.new.self = counted_up g.M.Memory.byte g.M.Memory.held g.M.Memory.regions c.args.sound.now c.args.self.now c.bursts.self c.burst-told.new.self c.args.env.now c.bursts.env c.burst-told.new.env c.burst-told.result inv.stays inv.within inv.gone c.to_go-most.result c.burst-told.ensures.burst c.burst-told.ensures.ended c.requires.at in
    let room = gone_room g.M.Memory.byte g.M.Memory.held g.M.Memory.regions c.args.sound.now c.args.self.now c.bursts.self c.burst-told.new.self c.args.env.now c.bursts.env c.burst-told.new.env c.burst-told.result inv.stays inv.within inv.gone c.to_go-most.result c.burst-told.ensures.burst c.burst-told.ensures.ended c.in-Room.is in
    record {
      made = made_still c.args.sound.now c.burst-told.new.self (record c.burst-told.new.self { core = c.widen.new.self }) (rest_core c.burst-told.new.self (record c.burst-told.new.self { core = c.widen.new.self }) refl) c.burst-told.ensures.made;
      within = counted_fits g.M.Memory.byte g.M.Memory.held g.M.Memory.regions c.args.sound.now c.args.self.now c.bursts.self c.burst-told.new.self c.args.env.now c.bursts.env c.burst-told.new.env c.burst-told.result inv.stays inv.within inv.gone c.to_go-most.result c.burst-told.ensures.burst c.burst-told.ensures.ended c.requires.at c.burst-told.ensures.stays.budget;
      later = omega (arith, inv.later, up);
      running = (room c.requires.at.1 c.requires.at.0 c.requires.at.2).running;
      stays = stays_then g.M.Memory.regions g.M.Memory.held c.args.self.now c.burst-told.new.self (record c.burst-told.new.self { core = c.widen.new.self }) (stays_then g.M.Memory.regions g.M.Memory.held c.args.self.now c.bursts.self c.burst-told.new.self inv.stays c.burst-told.ensures.stays)
          (stays_wider g.M.Memory.regions g.M.Memory.held c.burst-told.new.self (record c.burst-told.new.self { core = c.widen.new.self }) refl c.widen.ensures.grows);
      gone = gone_widened g.M.Memory.byte g.M.Memory.held (program_of g.M.Memory.regions c.args.sound.now c.args.self.now) c.args.self.now c.burst-told.new.self (record c.burst-told.new.self { core = c.widen.new.self }) c.args.env.now c.burst-told.new.env refl c.widen.ensures.grows room;
    }

-- no further
pub returns-in_default : goal.returns-in_default
returns-in_default g c =
    let inv = c.bursts.invariant in
    let up : count_of c.bursts.self ≤ count_of c.burst-told.new.self = counted_up g.M.Memory.byte g.M.Memory.held g.M.Memory.regions c.args.sound.now c.args.self.now c.bursts.self c.burst-told.new.self c.args.env.now c.bursts.env c.burst-told.new.env c.burst-told.result inv.stays inv.within inv.gone c.to_go-most.result c.burst-told.ensures.burst c.burst-told.ensures.ended c.requires.at in
    record {
      ran = λ more s from. subst (λ (x : StepAnswer). HasRun g.M.Memory.byte g.M.Memory.held (program_of g.M.Memory.regions c.args.sound.now c.args.self.now) c.args.limit x c.args.self.now c.burst-told.new.self c.args.env.now c.burst-told.new.env more s) (sym c.answer_of.ensures)
          (other_ran g.M.Memory.byte g.M.Memory.held g.M.Memory.regions c.args.sound.now c.args.self.now c.bursts.self c.burst-told.new.self c.args.env.now c.bursts.env c.burst-told.new.env c.burst-told.result inv.stays inv.within inv.gone c.to_go-most.result c.burst-told.ensures.burst c.burst-told.ensures.ended c.in_default.not-Stepped c.in_default.not-Room c.args.limit more s from);
      made = c.burst-told.ensures.made;
      stays = stays_then g.M.Memory.regions g.M.Memory.held c.args.self.now c.bursts.self c.burst-told.new.self inv.stays c.burst-told.ensures.stays;
      within = counted_fits g.M.Memory.byte g.M.Memory.held g.M.Memory.regions c.args.sound.now c.args.self.now c.bursts.self c.burst-told.new.self c.args.env.now c.bursts.env c.burst-told.new.env c.burst-told.result inv.stays inv.within inv.gone c.to_go-most.result c.burst-told.ensures.burst c.burst-told.ensures.ended c.requires.at c.burst-told.ensures.stays.budget;
      later = omega (arith, inv.later, up);
    }
