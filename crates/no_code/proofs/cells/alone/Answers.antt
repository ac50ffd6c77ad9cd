use Rattle.no_code.proofs.Branches.{grows_same}
use Rattle.no_code.proofs.cells.alone.Goals as goal

pub returns : goal.returns
returns c = (grows_same c.args.code.now, λ later r. c.requires later)
