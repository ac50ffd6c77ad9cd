use Rattle.no_read_toplevel.proofs.ModuleLaws.{meant_is_read, at_most_one}
use Rattle.no_read_toplevel.proofs.modules.modules_are_exact.Goals as goal

pub returns-clause-meant : goal.returns-clause-meant
returns-clause-meant c = meant_is_read

pub returns-clause-only : goal.returns-clause-only
returns-clause-only c = at_most_one
