use Rattle.std.proofs.Common.{rules, ◌≡◌, ◌⊎◌, inl, inr, ◌^◌, ◌<◌, ◌≤◌, arith}
use Rattle.no_machine.specs.Ran.{left_of}
use Rattle.no_machine.specs.declared.turn.Stop.TheVariants as stop
use Rattle.no_machine.proofs.Counting.{call_run, counts, further, none_left, turns_run}
use Rattle.no_machine.proofs.machine.Machine.burst.Goals as goal

pub returns-then-left-eq0-clause-burst : goal.returns-then-left-eq0-clause-burst
returns-then-left-eq0-clause-burst g c = none_left g.M.Memory.byte g.M.Memory.held g.M.Memory.regions c.args.sound.now c.args.self.now c.args.env.now c.requires.made.facts.marks c.if-left-eq0.true c.args.most _ _ c.close.ensures.closed c.close.ensures.told

pub close-requires-in-Outside : goal.close-requires-in-Outside
close-requires-in-Outside g c =
    let some : c.inside-why.result.1 < left_of c.args.self.now = further c.inside-why.result.0 _ _ _ c.inside-why.ensures.halted c.in-Outside.is c.lesser-most.ensures.high in
    let fits = counts g.M.Memory.byte g.M.Memory.held g.M.Memory.regions c.args.sound.now c.args.self.now c.inside-why.new.self _ _ c.inside-why.ensures.rest c.inside-why.ensures.regions c.inside-why.ensures.held c.inside-why.ensures.heap c.requires.within c.args.env.now c.inside-why.ensures.spun
    c.in-Outside.is some c.outside-what.new.self _ c.outside-what.new.env c.outside-what.ensures.outs c.outside-what.ensures.rest c.requires.at c.cost_by.result c.cost_by.ensures in
    let small : c.args.self.now.budget < 2 ^ 64 = search rules in
    omega (arith, fits, small)

pub returns-in-Outside-clause-burst : goal.returns-in-Outside-clause-burst
returns-in-Outside-clause-burst g c =
    let some : c.inside-why.result.1 < left_of c.args.self.now = further c.inside-why.result.0 _ _ _ c.inside-why.ensures.halted c.in-Outside.is c.lesser-most.ensures.high in
    let few : c.inside-why.result.1 < c.args.most = further c.inside-why.result.0 _ _ _ c.inside-why.ensures.halted c.in-Outside.is c.lesser-most.ensures.low in
    call_run g.M.Memory.byte g.M.Memory.held g.M.Memory.regions c.args.sound.now c.args.self.now c.inside-why.new.self _ _ c.inside-why.ensures.rest c.inside-why.ensures.regions c.inside-why.ensures.held c.inside-why.ensures.heap c.requires.within c.args.env.now c.inside-why.ensures.spun
    c.in-Outside.is some c.outside-what.new.self _ c.outside-what.new.env c.outside-what.ensures.outs c.outside-what.ensures.rest c.requires.made.facts.marks c.args.most few c.outside-what.ensures.held c.outside-what.ensures.ended c.outside-what.ensures.placed _ _ _ _ c.told_by.ensures c.cost_by.ensures c.close-in-Outside.ensures.closed c.close-in-Outside.ensures.told

pub returns-in_default-clause-burst : goal.returns-in_default-clause-burst
returns-in_default-clause-burst g c =
    let low : c.inside-why.result.1 ≤ left_of c.args.self.now = omega (arith, c.inside-why.ensures.most, c.lesser-most.ensures.high) in
    let all : c.inside-why.result.0 ≡ stop.Spent → (0 < c.inside-why.result.1) × (c.inside-why.result.1 ≤ c.args.most) = λ e. elim c.lesser-most.ensures.one [
      | inl is ↦ (omega (arith, c.inside-why.ensures.spent e, is, c.requires.some), omega (arith, c.inside-why.ensures.most, c.lesser-most.ensures.low))
      | inr is ↦ (omega (arith, c.inside-why.ensures.spent e, is, c.if-left-eq0.false), omega (arith, c.inside-why.ensures.most, c.lesser-most.ensures.low))
    ] in
    let some : (c.inside-why.result.0 ≡ stop.Spent) ⊎ ((c.inside-why.result.1 < left_of c.args.self.now) × (c.inside-why.result.1 < c.args.most)) = elim c.inside-why.ensures.halted [
      | inl e ↦ inl e
      | inr l ↦ inr (omega (arith, l, c.lesser-most.ensures.high), omega (arith, l, c.lesser-most.ensures.low))
    ] in
    turns_run g.M.Memory.byte g.M.Memory.held g.M.Memory.regions c.args.sound.now c.args.self.now c.inside-why.new.self _ _ c.inside-why.ensures.rest c.inside-why.ensures.regions c.inside-why.ensures.held c.inside-why.ensures.heap c.requires.within c.args.env.now c.inside-why.ensures.spun
    c.requires.made.facts.marks c.args.most low all some _ _ _ _ c.told_of.ensures c.cost_of.ensures.value c.close-in_default.ensures.closed c.close-in_default.ensures.told
