use Rattle.std.proofs.Common.{◌<◌, length, get_or, ℕ, [], ◌∷◌, arith, subst, sym}
use Rattle.std.proofs.lemmas.List.Elements.{Contains-get_or}
use Rattle.no_calls.proofs.Marking.{marked_more, marked_whole, reason_next}
use Rattle.no_calls.specs.Spreading.{Reason}
use Rattle.no_calls.proofs.spread.visit_all.Goals as goal

pub visit-requires-clause-set : goal.visit-requires-clause-set
visit-requires-clause-set c =
    let x = get_or c.args.sets.now c.loop-set.set-index 0 in
    subst (λ (n : ℕ). x < n) (sym c.loop-set.invariant.marked.wide) (c.requires.sets x (Contains-get_or c.args.sets.now c.loop-set.set-index 0 (omega arith)))

pub visit-requires-clause-below : goal.visit-requires-clause-below
visit-requires-clause-below c = λ a s h. subst (λ (n : ℕ). s < n) (sym c.loop-set.invariant.noted.wide) (c.requires.below a s h)

pub loop-set-preserved : goal.loop-set-preserved
loop-set-preserved c =
    let sets = c.args.sets.now in
    let i = c.loop-set.set-index in
    let down = c.args.down.now in
    let within : i < length sets = omega arith in
    record {
      noted = reason_next down c.args.level c.args.found.now c.loop-set.found c.visit.new.found sets i within c.loop-set.invariant.noted c.in_ok-visit.ensures.noted;
      marked = marked_more down (Reason (get_or sets i 0 ∷ []) down) c.args.level c.loop-set.found c.visit.new.found sets i c.args.done.now c.loop-set.done c.visit.new.done within c.in_ok-visit.ensures.noted c.loop-set.invariant.marked c.in_ok-visit.ensures.marked;
    }

pub returns-clause-marked : goal.returns-clause-marked
returns-clause-marked c = marked_whole c.args.down.now c.loop-set.found c.args.sets.now c.loop-set.set-index c.args.done.now c.loop-set.done (omega arith) c.loop-set.invariant.marked
