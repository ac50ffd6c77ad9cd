use Rattle.std.proofs.Common.{◌≡◌, ◌≤◌, Some, length, slice_get, refl, subst, arith}
use Rattle.std.proofs.lemmas.Option.{slice_get_read}
use Rattle.no_verify_paths.specs.Paths.{IsAnswer}
use Rattle.no_verify.proofs.Firsts.{all_assigned, first_unassigned, more_assigned}
use Rattle.no_verify.proofs.unassigned.unassigned_fault.Goals as goal

pub returns-in-Some : goal.returns-in-Some
returns-in-Some c =
    let at = slice_get_read c.args.functions.now (length c.args.functions.now) c.loop-k.k c.index-functions-k.result refl c.loop-k-test.true c.index-functions-k.is in
    first_unassigned c.args.functions.now c.loop-k.k c.index-functions-k.result c.in-Some.block c.in-Some.place c.in_ok-use_at.field-0 at (subst (IsAnswer c.index-functions-k.result) c.in-Some.is c.in_ok-block.ensures.answer) c.loop-k.invariant c.in_ok-use_at.ensures

pub loop-k-preserved : goal.loop-k-preserved
loop-k-preserved c =
    let at = slice_get_read c.args.functions.now (length c.args.functions.now) c.loop-k.k c.index-functions-k.result refl c.loop-k-test.true c.index-functions-k.is in
    more_assigned c.args.functions.now c.loop-k.k c.index-functions-k.result at (subst (IsAnswer c.index-functions-k.result) c.in_default.is c.in_ok-block.ensures.answer) c.loop-k.invariant

pub returns : goal.returns
returns c =
    let long : length c.args.functions.now ≤ c.loop-k.k = omega (arith, c.loop-k-test.false) in
    all_assigned c.args.functions.now c.loop-k.k long c.loop-k.invariant
