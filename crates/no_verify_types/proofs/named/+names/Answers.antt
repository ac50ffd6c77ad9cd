use Rattle.no_verify_types.specs.Named.{constant_names}
use Rattle.no_verify_types.proofs.Gathered.{gathered}
use Rattle.no_verify_types.proofs.named.+names.Goals as goal

pub add_constants-loop-constant-preserved : goal.add_constants-loop-constant-preserved
add_constants-loop-constant-preserved t c =
    gathered constant_names c.args.constants.now c.loop-constant.constant-index c.constant-item.result c.args.names.now.items c.loop-constant.names.items c.add_constant.new.names.items c.loop-constant-test.true c.constant-item.is c.loop-constant.invariant c.in_ok-add_constant.ensures
