use Rattle.std.proofs.Common.{◌≡◌, ◌≤◌, Some, length, get_or, slice_get, refl, subst, arith}
use Rattle.std.proofs.lemmas.List.{get_or_default}
use Rattle.std.proofs.lemmas.Option.{slice_get_read}
use Rattle.no_verify.specs.declared.fault.VerifyKind.TheVariants as kind
use Rattle.no_verify.specs.Kinds.{IsPlace}
use Rattle.no_verify.proofs.Firsts.{all_nowhere, more_nowhere}
use Rattle.no_verify.proofs.judge.first_fault.Goals as goal

pub loop-kind-preserved : goal.loop-kind-preserved
loop-kind-preserved c =
    let read = get_or c.args.kinds.now c.loop-kind.kind-index kind.UnknownName in
    let at : slice_get c.args.kinds.now c.loop-kind.kind-index ≡ Some read =
    slice_get_read c.args.kinds.now (length c.args.kinds.now) c.loop-kind.kind-index read refl c.loop-kind-test.true (get_or_default c.args.kinds.now c.loop-kind.kind-index kind.UnknownName read c.loop-kind-test.true) in
    more_nowhere (IsPlace c.args.layout.now c.args.program.now c.args.role) c.args.kinds.now c.loop-kind.kind-index read at (subst (IsPlace c.args.layout.now c.args.program.now c.args.role read) c.in_default.is c.in_ok-place.ensures) c.loop-kind.invariant

pub returns : goal.returns
returns c =
    let long : length c.args.kinds.now ≤ c.loop-kind.kind-index = omega (arith, c.loop-kind-test.false) in
    all_nowhere (IsPlace c.args.layout.now c.args.program.now c.args.role) c.args.kinds.now c.loop-kind.kind-index long c.loop-kind.invariant
