use Rattle.std.proofs.Common.{◌<◌, length, arith, ap, ◌++◌, ◌∙◌}
use Rattle.no_verify_paths.specs.Paths.{pair_use}
use Rattle.no_verify_paths.proofs.RowLaws.{flat_more}
use Rattle.no_verify_paths.proofs.operands.list_pairs.Goals as goal

pub loop-pair-preserved : goal.loop-pair-preserved
loop-pair-preserved c =
    let within : c.loop-pair.pair-index < length c.args.pairs.now = omega arith in
    let step = flat_more pair_use c.args.out.now.items c.args.pairs.now c.loop-pair.pair-index c.pair-item.result within c.pair-item.is in
    rw step (c.in_ok-list_pair.ensures ∙ ap (λ s. s ++ pair_use c.pair-item.result) c.loop-pair.invariant)
