use Rattle.std.proofs.Common.{◌≡◌, ◌∙◌, length, ℕ, arith, refl, ap, replicate, false, Vec}
use Rattle.std.specs.Prelude.{None}
use Rattle.std.specs.Global.{Global}
use Rattle.std.proofs.lemmas.List.{length-replicate}
use Rattle.no_calls.specs.declared.found.Found.{Found}
use Rattle.no_calls.proofs.Turns.{begin_room, turning_start}
use Rattle.no_calls.proofs.spread.spread.Goals as goal

pub settle-requires-clause-room : goal.settle-requires-clause-room
settle-requires-clause-room c =
    let blank : Found = record { far = c.in_ok-far.far; next = c.new.result } in
    let g : Found = record { far = c.begin.new.found.far; next = c.replace-waiting.new.dest } in
    let far : c.in_ok-far.far.items ≡ replicate (length c.args.up.now) None = c.in_ok-far.ensures in
    let room = begin_room c.args.up.now c.args.down.now c.args.starts.now (length c.args.up.now) blank c.begin.new.found g far c.new.ensures.items c.in_ok-begin.ensures.noted c.in_ok-begin.ensures.there refl c.replace-waiting.result.items (ap (λ (v : Vec ℕ Global). v.items) c.replace-waiting.ensures.value) in
    omega (arith, room, c.replace-waiting.result.ok.0)

pub settle-requires-clause-sets : goal.settle-requires-clause-sets
settle-requires-clause-sets c = λ a s h. omega (arith, c.requires.sets a s h, c.deref_mut.ensures.len, c.in_ok-done.ensures.len)

pub settle-requires-clause-below : goal.settle-requires-clause-below
settle-requires-clause-below c = λ a s h.
    let wide : length c.in_ok-far.far.items ≡ length c.args.up.now = ap length c.in_ok-far.ensures ∙ length-replicate (length c.args.up.now) None in
    omega (arith, c.requires.below a s h, c.in_ok-begin.ensures.noted.wide, wide)

pub returns : goal.returns
returns c =
    let blank : Found = record { far = c.in_ok-far.far; next = c.new.result } in
    let g : Found = record { far = c.begin.new.found.far; next = c.replace-waiting.new.dest } in
    let n = length c.args.up.now in
    let far : c.in_ok-far.far.items ≡ replicate n None = c.in_ok-far.ensures in
    let flags : c.deref_mut.result.now ≡ replicate (length c.args.down.now) false = c.deref_mut.ensures.value ∙ c.in_ok-done.ensures.items_if_clones_equal (λ y e. e) in
    c.in_ok-settle.ensures c.args.starts.now n
    (turning_start c.args.up.now c.args.down.now c.args.starts.now n blank c.begin.new.found g far c.new.ensures.items c.in_ok-begin.ensures.noted c.in_ok-begin.ensures.there refl c.replace-waiting.result.items (length c.args.down.now) c.deref_mut.result.now
    (ap (λ (v : Vec ℕ Global). v.items) c.replace-waiting.ensures.value) (ap (λ (v : Vec ℕ Global). v.items) c.replace-waiting.ensures.after ∙ c.new-2.ensures.items) flags)
