use Rattle.std.proofs.Common.{◌<◌, ◌∷◌, [], length, take, get_or, arith}
use Rattle.std.proofs.lemmas.List.{take_more}
use Rattle.no_verify_paths.specs.Flow.{Passed}
use Rattle.no_verify_paths.proofs.Flowing.{passed_more}
use Rattle.no_verify_paths.proofs.flow.pass.Goals as goal

pub loop-target-preserved : goal.loop-target-preserved
loop-target-preserved c =
    let targets = c.args.targets.now in
    let i = c.loop-target.target-index in
    let within : i < length targets = omega arith in
    let now : Passed (get_or targets i 0 ∷ []) c.args.out c.loop-target.sets c.narrow.new.sets c.loop-target.queue c.narrow.new.queue = c.in_ok-narrow.ensures in
    record {
      passed = rw (take_more targets i 0 within) (passed_more (take i targets) (get_or targets i 0) c.args.out c.args.sets.now c.loop-target.sets c.narrow.new.sets c.args.queue.now c.loop-target.queue c.narrow.new.queue c.loop-target.invariant.passed now);
      room = omega (arith, now.room);
    }
