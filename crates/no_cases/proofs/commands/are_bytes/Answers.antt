use Rattle.std.proofs.Common.{arith}
use Rattle.no_app.proofs.Feeding.{bytes_of}
use Rattle.no_cases.proofs.commands.are_bytes.Goals as goal

pub returns : goal.returns
returns c = bytes_of c.args.text.now (λ k. let b = c.type_inv.text k in omega (arith, b))
