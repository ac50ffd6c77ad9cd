use Rattle.std.proofs.Common.{take}
use Rattle.no_verify_paths.specs.Judge.{AreParameters}
use Rattle.no_verify_paths.proofs.parameters.parameter_rows.Given as goal

abbrev pub invariant-loop-parameter : goal.invariant-loop-parameter
invariant-loop-parameter l = AreParameters (take l.parameter-index l.parameters) l.rows.items
