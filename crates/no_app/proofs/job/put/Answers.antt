use Rattle.std.proofs.Common.{arith}
use Rattle.no_app.proofs.Feeding.{bytes_of}
use Rattle.no_app.proofs.job.put.Goals as goal

pub returns-clause-bytes : goal.returns-clause-bytes
returns-clause-bytes c = bytes_of c.args.piece.now (λ k. let b = c.type_inv.piece k in omega (arith, b))
