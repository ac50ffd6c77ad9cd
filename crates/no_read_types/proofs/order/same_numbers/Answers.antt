use Rattle.std.proofs.Common.{◌∷◌, [], arith}
use Rattle.std.proofs.lemmas.List.{length-append}
use Rattle.no_read_types.proofs.OrderLaws.{same_push}
use Rattle.no_read_types.proofs.order.same_numbers.Goals as goal

pub loop-all-preserved : goal.loop-all-preserved
loop-all-preserved c =
    let t = c.loop-all-test.true in
    let w = c.loop-all.invariant.within in
    let xs = c.loop-all.all.items in
    let l = length-append xs (c.len-in-loop-all.result ∷ []) in
    rw c.in_ok-push.ensures.items (record { within = omega arith; same = same_push xs c.len-in-loop-all.result c.loop-all.invariant.same (omega arith) })
