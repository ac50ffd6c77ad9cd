use Rattle.no_read_names.proofs.Named.{globals_named, functions_named}
use Rattle.no_read_names.proofs.laws.names_are_the_modules.Goals as goal

pub returns-clause-globals : goal.returns-clause-globals
returns-clause-globals c = globals_named

pub returns-clause-functions : goal.returns-clause-functions
returns-clause-functions c = functions_named
