use Rattle.std.proofs.Common.{List, [], ◌∷◌, ℕ, subst, sym}
use Rattle.std.specs.List.{Contains}
use Rattle.no_calls.specs.Spreading.{Reason}
use Rattle.no_calls.proofs.Finding.{noted_weaker, one}
use Rattle.no_calls.proofs.Marking.{marked_new}
use Rattle.no_calls.proofs.spread.visit.Goals as goal

pub meet_all-requires : goal.meet_all-requires
meet_all-requires c = λ b h. c.requires.below c.args.set b (subst (λ (l : List ℕ). Contains l b) c.row_of.ensures h)

pub returns-clause-noted : goal.returns-clause-noted
returns-clause-noted c =
    noted_weaker (Contains c.row_of.result.now) (Reason (c.args.set ∷ []) c.args.down.now) c.args.level c.args.found.now c.meet_all.new.found
    (λ b h. (c.args.set, one c.args.set, subst (λ (l : List ℕ). Contains l b) c.row_of.ensures h)) c.in_ok-meet_all.ensures.noted

pub returns-clause-marked : goal.returns-clause-marked
returns-clause-marked c = marked_new c.args.down.now c.meet_all.new.found c.args.done.now c.args.set c.requires.set (λ b h. c.in_ok-meet_all.ensures.there b (subst (λ (l : List ℕ). Contains l b) (sym c.row_of.ensures) h))
