use Rattle.std.proofs.Common.{◌≡◌, ℤ, [], ◌∷◌, ap, subst, IfSome, ◌∙◌, codes, Option}
use Rattle.std.proofs.lemmas.Result.{err_from_is_err_and}
use Rattle.std.proofs.lemmas.Int.{to_z-of_z}
use mir.Syntax.{w64}
use mir.Val.{to_z, of_z, SFits}
use Rattle.no_read_rules.specs.Lists.{more_item}
use Rattle.no_read_rules.specs.Repeated.{repeat_all, with_front}
use Rattle.no_read_rules.specs.Scope.{seen}
use Rattle.no_read_constants.specs.Places.{an_index}
use Rattle.no_read_constants.proofs.PlaceLaws.{indices_fail, indices_stop, indices_fall, indices_go}
use Rattle.no_read_constants.proofs.places.more_indices.Goals as goal

pub returns-in_err-item : goal.returns-in_err-item
returns-in_err-item c =
    let p = err_from_is_err_and c.from_residual-in_err-item.result c.from_residual-in_err-item.ensures.1 in
    let m = seen c.args.scope.now in
    let e : to_z w64 (of_z w64 c.args.first) ≡ c.args.first = to_z-of_z w64 c.args.first (record { sfits = c.ranges.first.sfits }) in
    rw (p.1, p.2) (indices_fail m c.in_err-item.field-0.0 c.loop-all.all c.loop-all.rest.now _ c.in_err-item.ensures.is
    (c.loop-all.invariant ∙ ap (λ (z : ℤ). with_front (z ∷ []) (repeat_all (more_item m.text (codes ")") (an_index m)) tt c.args.tokens.now)) e))

pub returns-in-None : goal.returns-in-None
returns-in-None c =
    let m = seen c.args.scope.now in
    let e : to_z w64 (of_z w64 c.args.first) ≡ c.args.first = to_z-of_z w64 c.args.first (record { sfits = c.ranges.first.sfits }) in
    indices_stop m c.loop-all.all c.loop-all.rest.now c.in_ok-item.after.now c.in_ok-item.item _ c.in_ok-item.ensures.is c.in-None.is
    (c.loop-all.invariant ∙ ap (λ (z : ℤ). with_front (z ∷ []) (repeat_all (more_item m.text (codes ")") (an_index m)) tt c.args.tokens.now)) e)

pub loop-all-smaller : goal.loop-all-smaller
loop-all-smaller c = indices_fall (seen c.args.scope.now) c.loop-all.rest.now c.in_ok-item.after.now c.in_ok-item.item c.in_ok-item.ensures.is

pub loop-all-preserved : goal.loop-all-preserved
loop-all-preserved c =
    let fits : SFits w64 c.in-Some.index = subst (λ (o : Option ℤ). IfSome o (λ z. SFits w64 z)) c.in-Some.is c.in_ok-item.ensures.fits in
    rw (c.in_ok-push-in-Some.ensures.ok, to_z-of_z w64 c.in-Some.index fits) (indices_go (seen c.args.scope.now) c.loop-all.all c.loop-all.rest.now c.in_ok-item.after.now c.in_ok-item.item c.in-Some.index _ c.in_ok-item.ensures.is c.in-Some.is c.loop-all.invariant)
