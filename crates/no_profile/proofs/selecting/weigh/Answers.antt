use Rattle.no_profile.proofs.Flags.{in_range_at, weigh_failed}
use Rattle.no_profile.proofs.selecting.weigh.Goals as goal

pub see-requires : goal.see-requires
see-requires c = in_range_at c.args.lines.now c.loop-line.line-index c.line-item.result c.loop-line-test.true c.line-item.is c.requires

pub returns-in-Err : goal.returns-in-Err
returns-in-Err c = λ functions count n.
    let so = c.loop-line.invariant functions count n in
    weigh_failed functions c.args.rates.now c.args.lines.now c.loop-line.line-index _ _ so c.line-item.result c.loop-line-test.true c.line-item.is c.in-Err.error _ _ (c.in-Err.ensures functions _ n so.0)
