use Rattle.std.proofs.Common.{◌≡◌, ◌∙◌, ◌+◌, ◌^◌, ◌<◌, ◌++◌, ◌∷◌, [], ℕ, List, sym, refl, ap, subst, map, take, drop, length, slice_range, rules, arith}
use Rattle.std.proofs.lemmas.Option.{get_or_from_slice_get, same_Some}
use Rattle.no_code.specs.declared.code.Argument.{Argument}
use Rattle.no_code.specs.declared.code.Home.{Home}
use Rattle.no_machine.specs.Calling.{argument_in, passed_to}
use Rattle.no_machine.proofs.Entering.{caller_window, each_in, home_same}
use Rattle.no_machine.proofs.calls.call.Goals as goal

pub enter-requires-clause-each : goal.enter-requires-clause-each
enter-requires-clause-each c =
    let a = c.args in
    let r = c.requires.ready in
    let own = c.own_home-home.result in
    let home : own ≡ r.home = home_same a.code.now a.at own r.home c.own_home-home.ensures r.home_is in
    let window : drop a.base (take (a.base + own.registers + 1) a.slots.now) ≡ take (r.home.registers + 1) (drop a.base a.slots.now) = caller_window a.base own.registers a.slots.now ∙ ap (λ (h : Home). take (h.registers + 1) (drop a.base a.slots.now)) home in
    each_in c.arguments-args.result.now (slice_range a.code.now.arguments a.from a.to) a.constants.now a.code.now.constants (take (r.home.registers + 1) (drop a.base a.slots.now)) _ c.arguments-args.ensures c.requires.same window r.each

pub returns : goal.returns
returns c = λ r.
    let a = c.args in
    let own = c.own_home-home.result in
    let callee = c.home_of-callee.result in
    let home : own ≡ r.home = home_same a.code.now a.at own r.home c.own_home-home.ensures r.home_is in
    let called : callee ≡ r.callee = same_Some callee r.callee (sym c.home_of-callee.ensures ∙ r.callee_is) in
    let few : callee.registers < 2 ^ 31 = omega (arith, c.if-callee-ge-MANY.false) in
    let room : a.base + own.registers + 1 + callee.registers < length a.slots.now = omega (arith, c.if-slots-above.false) in
    let kept : c.push.new.self.items ≡ a.frames.now.items ++ record { next = a.at + 1; base = a.base; into = a.into; sp = a.sp.now } ∷ [] = search rules in
    let window : List ℕ = drop a.base (take (a.base + own.registers + 1) a.slots.now) in
    record {
      defined = sym (get_or_from_slice_get a.declared.now a.f r.outside _ r.outside_is) ∙ c.if-declared-f.false;
      above_is = ap (λ (h : Home). a.base + h.registers + 1) home;
      start_is = ap (λ (h : Home). h.start) called;
      high = omega (arith, c.if-sp.false);
      stack = refl;
      few = subst (λ (h : Home). h.registers < 2 ^ 31) called few;
      room = subst (λ (h : Home). a.base + own.registers + 1 + h.registers < length a.slots.now) called room;
      kept = kept;
      below = c.enter.ensures.below;
      passed = c.enter.ensures.passed
          ∙ ap (λ (l : List Argument). passed_to c.arguments-params.result.now (map (argument_in window a.constants.now) l) (drop (a.base + own.registers + 1) a.slots.now)) c.arguments-args.ensures
          ∙ ap (λ (l : List Argument). passed_to l (map (argument_in window a.constants.now) (slice_range a.code.now.arguments a.from a.to)) (drop (a.base + own.registers + 1) a.slots.now)) c.arguments-params.ensures
          ∙ ap (λ (h : Home). passed_to (slice_range a.code.now.arguments h.from h.to) (map (argument_in window a.constants.now) (slice_range a.code.now.arguments a.from a.to)) (drop (a.base + own.registers + 1) a.slots.now)) called
          ∙ ap (λ (cs : List ℕ). passed_to (slice_range a.code.now.arguments r.callee.from r.callee.to) (map (argument_in window cs) (slice_range a.code.now.arguments a.from a.to)) (drop (a.base + own.registers + 1) a.slots.now)) c.requires.same;
    }
