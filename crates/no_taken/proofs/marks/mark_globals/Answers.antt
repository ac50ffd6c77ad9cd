use Rattle.no_verify_types.specs.Named.{global_names}
use Rattle.no_taken.proofs.Flags.{marked_on}
use Rattle.no_taken.proofs.marks.mark_globals.Goals as goal

pub loop-global-preserved : goal.loop-global-preserved
loop-global-preserved c = marked_on global_names c.args.globals.now c.loop-global.global-index c.global-item.result c.loop-global.flags c.mark_constant.new.flags _ c.loop-global-test.true c.global-item.is c.loop-global.invariant c.mark_constant.ensures
