use Rattle.no_verify_types.specs.Named.{constant_names}
use Rattle.no_taken.proofs.Flags.{marked_all, marked_on}
use Rattle.no_taken.proofs.marks.+taken.Goals as goal

pub mark_constants-loop-constant-preserved : goal.mark_constants-loop-constant-preserved
mark_constants-loop-constant-preserved t c =
    marked_on constant_names c.args.constants.now c.loop-constant.constant-index c.constant-item.result c.loop-constant.flags c.mark_constant.new.flags _ c.loop-constant-test.true c.constant-item.is c.loop-constant.invariant c.mark_constant.ensures

pub mark_constants-returns : goal.mark_constants-returns
mark_constants-returns t c = marked_all constant_names c.args.constants.now c.loop-constant.constant-index c.loop-constant.flags c.args.flags.now c.loop-constant-test.false c.loop-constant.invariant
