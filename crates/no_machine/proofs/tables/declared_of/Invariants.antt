use Rattle.no_module.specs.Functions.{is_declared}
use Rattle.no_machine.proofs.Tabled.{IsTabled}
use Rattle.no_machine.proofs.tables.declared_of.Given as goal

abbrev pub invariant-loop-function : goal.invariant-loop-function
invariant-loop-function l = IsTabled is_declared l.function-items l.table l.function-index
