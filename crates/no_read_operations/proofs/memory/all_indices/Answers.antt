use Rattle.no_read_rules.specs.Scope.{seen}
use Rattle.no_read_operations.proofs.FormLaws.{sized_good}
use Rattle.no_read_operations.proofs.memory.all_indices.Goals as goal

pub some_listed-requires-clause-good : goal.some_listed-requires-clause-good
some_listed-requires-clause-good c = sized_good (seen c.args.scope.now)
