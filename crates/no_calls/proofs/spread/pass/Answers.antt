use Rattle.std.proofs.Common.{◌<◌, ◌∙◌, ◌+◌, length, get_or, List, ℕ, arith, subst, sym, refl}
use Rattle.std.specs.List.{Contains}
use Rattle.no_calls.specs.Spreading.{Reason}
use Rattle.no_calls.proofs.Finding.{noted_same, noted_then, noted_weaker}
use Rattle.no_calls.proofs.Turns.{turning_all, turning_next}
use Rattle.no_calls.proofs.spread.pass.Goals as goal

pub loop-number-init : goal.loop-number-init
loop-number-init c = record { noted = noted_same _ (c.args.level + 1) c.args.found.now; wide = refl; turning = λ starts n t. t }

pub visit_all-requires-clause-sets : goal.visit_all-requires-clause-sets
visit_all-requires-clause-sets c = λ s h.
    subst (λ (n : ℕ). s < n) (sym c.loop-number.invariant.wide) (c.requires.sets (get_or c.args.waiting.now c.loop-number.number-index 0) s (subst (λ (l : List ℕ). Contains l s) c.row_of-sets.ensures h))

pub visit_all-requires-clause-below : goal.visit_all-requires-clause-below
visit_all-requires-clause-below c = λ a s h. subst (λ (n : ℕ). s < n) (sym c.loop-number.invariant.noted.wide) (c.requires.below a s h)

pub loop-number-preserved : goal.loop-number-preserved
loop-number-preserved c =
    let waiting = c.args.waiting.now in
    let i = c.loop-number.number-index in
    let within : i < length waiting = omega arith in
    let now = c.in_ok-visit_all.ensures in
    let sets = c.row_of-sets.result.now in
    let level = c.args.level in
    record {
      noted = noted_then (λ _. Unit {0}) (level + 1) c.args.found.now c.loop-number.found c.visit_all.new.found c.loop-number.invariant.noted (noted_weaker (Reason sets c.args.down.now) (λ _. Unit {0}) (level + 1) c.loop-number.found c.visit_all.new.found (λ k w. tt) now.noted);
      wide = now.marked.wide ∙ c.loop-number.invariant.wide;
      turning = λ starts n t.
          turning_next c.args.up.now c.args.down.now starts n level waiting i sets c.loop-number.done c.visit_all.new.done c.loop-number.found c.visit_all.new.found within c.row_of-sets.ensures now.noted now.marked (c.loop-number.invariant.turning starts n t);
    }

pub returns-clause-turning : goal.returns-clause-turning
returns-clause-turning c = λ starts n t. turning_all c.args.up.now c.args.down.now starts n c.args.level c.args.waiting.now c.loop-number.number-index c.loop-number.done c.loop-number.found (omega arith) (c.loop-number.invariant.turning starts n t)
