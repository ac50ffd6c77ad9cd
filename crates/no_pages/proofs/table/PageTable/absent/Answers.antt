use Rattle.std.proofs.Common.{false}
use Rattle.no_pages.proofs.Fresh.{made_absent, made_bytes, made_dirty}
use Rattle.no_pages.proofs.table.PageTable.absent.Goals as goal

pub returns-clause-bytes : goal.returns-clause-bytes
returns-clause-bytes c = made_bytes c.args.regions false c.make.result c.make.ensures

pub returns-clause-held : goal.returns-clause-held
returns-clause-held c = made_absent c.args.regions c.make.result c.make.ensures

pub returns-clause-dirty : goal.returns-clause-dirty
returns-clause-dirty c = made_dirty c.args.regions false c.make.result c.make.ensures
