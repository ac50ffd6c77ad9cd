use Rattle.std.proofs.Common.{arith}
use Rattle.no_profile.proofs.Numbering.{numbered_next}
use Rattle.no_profile.proofs.selecting.numbered.Goals as goal

pub loop-k-preserved : goal.loop-k-preserved
loop-k-preserved c = record {
  numbered = numbered_next c.args.functions.now c.loop-k.k c.index-functions-k.result _ _ _ _ c.loop-k-test.true c.index-functions-k.is c.loop-k.invariant.numbered c.in_ok-add_function.ensures.numbered;
  room = omega (arith, c.loop-k.invariant.room, c.in_ok-add_function.ensures.grows);
}
