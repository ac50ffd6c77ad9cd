use Rattle.std.proofs.Common.{◌≡◌, ◌-◌, ◌∙◌, arith}
use Rattle.no_machine.specs.Turning.{program_with}
use Rattle.no_machine.specs.declared.turn.Turn.TheVariants as turn
use Rattle.no_machine.proofs.Spinning.{here_more, never_spent, spun_more, spun_none, spun_stop, turn_at}
use Rattle.no_machine.proofs.spin.spin.Goals as goal

pub returns-in-Halt-clause-spun : goal.returns-in-Halt-clause-spun
returns-in-Halt-clause-spun g c = λ s here.
    let a = c.args in
    let l = c.loop-count in
    let turned = turn_at a.facts.sound.now a.facts.addresses.now (turn.Halt c.in-Halt._at c.in-Halt._base c.in-Halt.why) l.at l.base l.sp c.turn.new.sp l.slots c.turn.new.slots l.frames.items c.turn.new.frames.items (g.M.Memory.byte l.mem) (g.M.Memory.byte c.turn.new.mem) _ _ _ _ l.invariant.regions l.invariant.held c.in-Halt.ensures.turned in
    let count : l.count ≡ a.stand.left - (a.stand.left - l.count) = omega (arith, c.loop-count-test.true) in
    spun_stop (program_with a.facts.sound.now a.facts.addresses.now (g.M.Memory.regions a.mem.now)) (g.M.Memory.held a.mem.now) c.in-Halt.why l.count (a.stand.left - (a.stand.left - l.count)) l.at l.base l.sp l.slots l.frames.items (g.M.Memory.byte l.mem)
    c.turn.new.sp c.turn.new.slots c.turn.new.frames.items (g.M.Memory.byte c.turn.new.mem) s (l.invariant.spun s here) count turned

pub returns-in-Halt-clause-spent : goal.returns-in-Halt-clause-spent
returns-in-Halt-clause-spent g c =
    let a = c.args in
    let l = c.loop-count in
    let turned = turn_at a.facts.sound.now a.facts.addresses.now (turn.Halt c.in-Halt._at c.in-Halt._base c.in-Halt.why) l.at l.base l.sp c.turn.new.sp l.slots c.turn.new.slots l.frames.items c.turn.new.frames.items (g.M.Memory.byte l.mem) (g.M.Memory.byte c.turn.new.mem) _ _ _ _ l.invariant.regions l.invariant.held c.in-Halt.ensures.turned in
    never_spent (program_with a.facts.sound.now a.facts.addresses.now (g.M.Memory.regions a.mem.now)) (g.M.Memory.held a.mem.now) c.in-Halt.why (a.stand.left - l.count) l.at l.base l.sp l.slots l.frames.items (g.M.Memory.byte l.mem)
    c.turn.new.sp c.turn.new.slots c.turn.new.frames.items (g.M.Memory.byte c.turn.new.mem) l.invariant.here.0 l.invariant.here.1 turned

pub loop-count-init : goal.loop-count-init
loop-count-init g c =
    let a = c.args in
    record {
      here = c.requires.here;
      spun = λ s here. spun_none (program_with a.facts.sound.now a.facts.addresses.now (g.M.Memory.regions a.mem.now)) (g.M.Memory.held a.mem.now) a.stand.at a.stand.base a.sp.now a.slots.now a.frames.now.items (g.M.Memory.byte a.mem.now) s here;
      regions = λ i. g.M.Memory.regions a.mem.now;
      held = λ i. g.M.Memory.held a.mem.now;
    }

pub loop-count-preserved : goal.loop-count-preserved
loop-count-preserved g c =
    let a = c.args in
    let l = c.loop-count in
    let turned = turn_at a.facts.sound.now a.facts.addresses.now (turn.On c.in-On.next c.in-On.there) l.at l.base l.sp c.turn.new.sp l.slots c.turn.new.slots l.frames.items c.turn.new.frames.items (g.M.Memory.byte l.mem) (g.M.Memory.byte c.turn.new.mem) _ _ _ _ l.invariant.regions l.invariant.held c.in-On.ensures.turned in
    let p = program_with a.facts.sound.now a.facts.addresses.now (g.M.Memory.regions a.mem.now) in
    let held = g.M.Memory.held a.mem.now in
    let t = turned l.invariant.here.0 l.invariant.here.1 in
    record {
      here = (t.state, here_more p held l.at l.base l.sp l.slots l.frames.items (g.M.Memory.byte l.mem) c.in-On.next c.in-On.there c.turn.new.sp c.turn.new.slots c.turn.new.frames.items (g.M.Memory.byte c.turn.new.mem) l.invariant.here.0 l.invariant.here.1 t);
      spun = λ s here. spun_more p held l.count l.at l.base l.sp l.slots l.frames.items (g.M.Memory.byte l.mem) c.in-On.next c.in-On.there c.turn.new.sp c.turn.new.slots c.turn.new.frames.items (g.M.Memory.byte c.turn.new.mem) s (l.invariant.spun s here) turned;
      regions = c.turn.ensures.regions ∙ l.invariant.regions;
      held = c.turn.ensures.held ∙ l.invariant.held;
    }
