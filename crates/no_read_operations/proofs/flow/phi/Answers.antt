use Rattle.no_read_rules.specs.Scope.{seen}
use Rattle.no_read_operations.proofs.FormLaws.{pair_good}
use Rattle.no_read_operations.proofs.flow.phi.Goals as goal

pub some_listed-requires-clause-good : goal.some_listed-requires-clause-good
some_listed-requires-clause-good c = pair_good (seen c.args.scope.now) c.in_ok-of.of
