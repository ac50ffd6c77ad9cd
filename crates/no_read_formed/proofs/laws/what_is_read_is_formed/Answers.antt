use Rattle.no_read_formed.proofs.Modules.{read_formed, read_marks}
use Rattle.no_read_formed.proofs.Typed.{names_typed}
use Rattle.no_read_formed.proofs.laws.what_is_read_is_formed.Goals as goal

pub returns-clause-modules : goal.returns-clause-modules
returns-clause-modules c = read_formed

pub returns-clause-marks : goal.returns-clause-marks
returns-clause-marks c = read_marks

pub returns-clause-typed : goal.returns-clause-typed
returns-clause-typed c = names_typed
