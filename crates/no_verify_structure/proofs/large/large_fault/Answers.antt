use Rattle.std.proofs.Common.{◌∙◌, sym, Some}
use Rattle.no_verify_structure.proofs.Named.{large_used}
use Rattle.no_verify_structure.proofs.large.large_fault.Goals as goal

pub returns-in-Some : goal.returns-in-Some
returns-in-Some c = large_used c.args.layout.now c.args.program.now c.in-Ok.sizes (Some c.in-Some.place) c.in-Ok.ensures (sym c.in-Some.is ∙ c.in_ok-place-in-Ok.ensures)
