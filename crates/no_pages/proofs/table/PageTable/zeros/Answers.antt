use Rattle.std.proofs.Common.{true}
use Rattle.no_pages.proofs.Fresh.{made_bytes, made_dirty}
use Rattle.no_pages.proofs.table.PageTable.zeros.Goals as goal

pub returns-clause-bytes : goal.returns-clause-bytes
returns-clause-bytes c = made_bytes c.args.regions true c.make.result c.make.ensures

pub returns-clause-dirty : goal.returns-clause-dirty
returns-clause-dirty c = made_dirty c.args.regions true c.make.result c.make.ensures
