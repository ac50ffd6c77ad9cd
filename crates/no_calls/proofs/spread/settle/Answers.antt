use Rattle.std.proofs.Common.{◌<◌, ◌≡◌, ◌∙◌, ◌+◌, length, List, [], ℕ, arith, subst, sym, refl, ap, Vec, vec_len}
use Rattle.std.specs.Global.{Global}
use Rattle.std.proofs.lemmas.List.{nil_from_length}
use Rattle.no_calls.specs.Spreading.{Turning, unmet}
use Rattle.no_calls.proofs.Turns.{none_more, not_none, turning_end, turning_on}
use Rattle.no_calls.proofs.spread.settle.Goals as goal

pub loop-alloc-init : goal.loop-alloc-init
loop-alloc-init c = record { room = omega (arith, c.requires.room, c.args.waiting.ok.0); wide = refl; count = refl; none = c.requires.none; turning = λ starts n t. t }

pub pass-requires-clause-sets : goal.pass-requires-clause-sets
pass-requires-clause-sets c = λ a s h. subst (λ (n : ℕ). s < n) (sym c.loop-alloc.invariant.wide) (c.requires.sets a s h)

pub pass-requires-clause-below : goal.pass-requires-clause-below
pass-requires-clause-below c = λ a s h. subst (λ (n : ℕ). s < n) (sym c.loop-alloc.invariant.count) (c.requires.below a s h)

pub pass-requires-clause-room : goal.pass-requires-clause-room
pass-requires-clause-room c =
    let some : 0 < vec_len c.loop-alloc.waiting = not_none (vec_len c.loop-alloc.waiting) (sym c.is_empty.ensures ∙ c.loop-alloc-test.true) in
    omega (arith, some, c.loop-alloc.waiting.ok.0, c.loop-alloc.invariant.room, c.loop-alloc.invariant.count, c.requires.short)

pub loop-alloc-preserved : goal.loop-alloc-preserved
loop-alloc-preserved c =
    let now = c.in_ok-pass.ensures in
    let before = c.loop-alloc.invariant in
    let empty : length c.loop-alloc.found.next.items ≡ 0 = ap length before.none in
    let rest : length c.replace-waiting.result.items ≡ length c.pass.new.found.next.items = ap (λ (v : Vec ℕ Global). length v.items) c.replace-waiting.ensures.value in
    let more : 0 < vec_len c.loop-alloc.waiting = not_none (vec_len c.loop-alloc.waiting) (sym c.is_empty.ensures ∙ c.loop-alloc-test.true) in
    let some : 0 < length c.loop-alloc.waiting.items = omega (arith, more, c.loop-alloc.waiting.ok.0) in
    let none : c.replace-waiting.new.dest.items ≡ [] = ap (λ (v : Vec ℕ Global). v.items) c.replace-waiting.ensures.after ∙ c.new.ensures.items in
    record {
      room = omega (arith, now.noted.count, now.noted.wide, before.room, empty, rest, some);
      wide = now.wide ∙ before.wide;
      count = now.noted.wide ∙ before.count;
      none = none;
      turning = λ starts n t.
          let then' : Turning c.args.up.now c.args.down.now starts n c.loop-alloc.level c.as_slice.result.now c.loop-alloc.done c.loop-alloc.found = subst (λ (l : List ℕ). Turning c.args.up.now c.args.down.now starts n c.loop-alloc.level l c.loop-alloc.done c.loop-alloc.found) (sym c.as_slice.ensures.value) (before.turning starts n t) in
          turning_on c.args.up.now c.args.down.now starts n c.loop-alloc.level c.replace-waiting.result.items c.pass.new.done c.pass.new.found _ (ap (λ (v : Vec ℕ Global). v.items) c.replace-waiting.ensures.value) refl none (now.turning starts n then');
    }

pub loop-alloc-smaller : goal.loop-alloc-smaller
loop-alloc-smaller c =
    let more : 0 < vec_len c.loop-alloc.waiting = not_none (vec_len c.loop-alloc.waiting) (sym c.is_empty.ensures ∙ c.loop-alloc-test.true) in
    let empty : length c.loop-alloc.found.next.items ≡ 0 = ap length c.loop-alloc.invariant.none in
    let rest : length c.replace-waiting.result.items ≡ length c.pass.new.found.next.items = ap (λ (v : Vec ℕ Global). length v.items) c.replace-waiting.ensures.value in
    let fewer : unmet c.pass.new.found.far.items + length c.replace-waiting.result.items < unmet c.loop-alloc.found.far.items + length c.loop-alloc.waiting.items =
    omega (arith, more, empty, rest, c.loop-alloc.waiting.ok.0, c.in_ok-pass.ensures.noted.count) in
    fewer

pub returns : goal.returns
returns c = λ starts n t. turning_end c.args.up.now c.args.down.now starts n c.loop-alloc.level c.loop-alloc.waiting.items c.loop-alloc.done c.loop-alloc.found (nil_from_length c.loop-alloc.waiting.items (none_more c.loop-alloc.waiting.items (vec_len c.loop-alloc.waiting) c.loop-alloc.waiting.ok.0 (sym c.is_empty.ensures ∙ c.loop-alloc-test.false))) c.loop-alloc.invariant.none (c.loop-alloc.invariant.turning starts n t)
