use Rattle.std.proofs.Common.{◌≡◌, ◌∙◌, ◌+◌, ◌-◌, ap, arith, subst, ℕ, List, [], ◌∷◌, ◌++◌}
use Rattle.std.specs.Prelude.{Option, Some, None}
use Rattle.no_calls.specs.Nearest.{IsNearest}
use Rattle.no_calls.specs.Spreading.{Reason}
use Rattle.no_calls.proofs.Walking.{Gone, gone_all, gone_more, gone_none, gone_stuck}
use Rattle.no_calls.proofs.reached.walk.Goals as goal

pub loop-init : goal.loop-init
loop-init c = λ members far goals t are e lt.
    let whole : c.args.distance ≡ c.args.distance - 0 = omega arith in
    subst (λ (n : ℕ). Gone c.args.uses.now members goals far c.args.from c.args.from n c.push.new.self) whole
    (gone_none c.args.uses.now members goals far c.args.from c.args.distance c.push.new.self (c.in_ok-push.ensures.ok ∙ ap (λ (l : List ℕ). l ++ c.args.from ∷ []) c.new-way.ensures) e lt)

pub returns-in_default : goal.returns-in_default
returns-in_default c = λ members far goals t are e lt.
    let left : c.args.distance - c.loop.counter ≡ (c.args.distance - (c.loop.counter + 1)) + 1 = omega arith in
    let near : IsNearest (Reason c.row_of.result.now members) far None = subst (λ (o : Option (ℕ × ℕ)). IsNearest (Reason c.row_of.result.now members) far o) c.in_default.is (c.nearest_in.ensures members far are) in
    absurd (gone_stuck c.args.uses.now members goals far c.args.from c.loop.here (c.args.distance - (c.loop.counter + 1)) c.row_of.result.now c.loop.way c.row_of.ensures near t
    (subst (λ (n : ℕ). Gone c.args.uses.now members goals far c.args.from c.loop.here n c.loop.way) left (c.loop.invariant members far goals t are e lt)))

pub loop-preserved : goal.loop-preserved
loop-preserved c = λ members far goals t are e lt.
    let left : c.args.distance - c.loop.counter ≡ (c.args.distance - (c.loop.counter + 1)) + 1 = omega arith in
    let near : IsNearest (Reason c.row_of.result.now members) far (Some (c.in-Some.field-0-0, c.in-Some.next)) = subst (λ (o : Option (ℕ × ℕ)). IsNearest (Reason c.row_of.result.now members) far o) c.in-Some.is (c.nearest_in.ensures members far are) in
    gone_more c.args.uses.now members goals far c.args.from c.loop.here (c.args.distance - (c.loop.counter + 1)) c.in-Some.field-0-0 c.in-Some.next c.row_of.result.now c.loop.way c.push-in-loop.new.self c.row_of.ensures near c.in_ok-push-2.ensures.ok t
    (subst (λ (n : ℕ). Gone c.args.uses.now members goals far c.args.from c.loop.here n c.loop.way) left (c.loop.invariant members far goals t are e lt))

pub returns : goal.returns
returns c = λ members far goals t are e lt.
    let left : c.args.distance - c.loop.counter ≡ 0 = omega arith in
    gone_all c.args.uses.now members goals far c.args.from c.loop.here c.loop.way t (subst (λ (n : ℕ). Gone c.args.uses.now members goals far c.args.from c.loop.here n c.loop.way) left (c.loop.invariant members far goals t are e lt))
