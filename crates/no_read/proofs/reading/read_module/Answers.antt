use Rattle.no_read_types.proofs.LiftLaws.{lift_found}
use Rattle.no_read.proofs.FormedLaws.{answer_formed, answer_unmarked}
use Rattle.no_read.proofs.ReadingLaws.{only_read}
use Rattle.no_read.proofs.reading.read_module.Goals as goal

pub returns-clause-only : goal.returns-clause-only
returns-clause-only c = λ answer q.
    only_read c.args.text.now c.args.role c.args.tokens.now (λ k m p. c.modules_are_exact.ensures.meant _ _ _ _ m p) c.read.result answer c.read.ensures q

pub returns-clause-formed : goal.returns-clause-formed
returns-clause-formed c = answer_formed (λ m names tokens l e. lift_found m names tokens l e) c.args.text.now c.args.role c.args.tokens.now c.read.result c.read.ensures

pub returns-clause-marks : goal.returns-clause-marks
returns-clause-marks c = answer_unmarked (λ m names tokens l e. lift_found m names tokens l e) c.args.text.now c.args.role c.args.tokens.now c.read.result c.read.ensures
