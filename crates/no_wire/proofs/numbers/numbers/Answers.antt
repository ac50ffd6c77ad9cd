use Rattle.std.proofs.Common.{◌/◌, length, arith}
use Rattle.no_wire.proofs.Lists.{numbers_on}
use Rattle.no_wire.specs.Reading.{all_numbers}
use Rattle.no_wire.proofs.numbers.numbers.Goals as goal

pub loop-preserved : goal.loop-preserved
loop-preserved c = record {
  so_far =
      let on = numbers_on c.loop.all (length c.args.bytes.now / 8) c.loop.counter c.loop.rest.now (all_numbers c.args.bytes.now) (omega (arith, c.loop-test.true)) c.loop.invariant.so_far in
      rw (c.in_ok-push.ensures.ok, c.u64_at.ensures, c.split_at.ensures.front, c.split_at.ensures.back) on;
  left = omega (arith, c.loop.invariant.left, c.split_at.ensures.back_len);
}
