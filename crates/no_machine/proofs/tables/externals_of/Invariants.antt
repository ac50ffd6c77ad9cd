use Rattle.no_module.specs.Externals.{external_of}
use Rattle.no_machine.proofs.Tabled.{IsTabled}
use Rattle.no_machine.proofs.tables.externals_of.Given as goal

abbrev pub invariant-loop-function : goal.invariant-loop-function
invariant-loop-function l = IsTabled (external_of l.role) l.function-items l.table l.function-index
