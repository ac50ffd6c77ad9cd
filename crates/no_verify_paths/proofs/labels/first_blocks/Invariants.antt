use Rattle.std.proofs.Common.{◌≡◌, ℕ, drop}
use Rattle.no_verify_paths.specs.Survey.{at}
use Rattle.no_verify_paths.specs.Paths.{first_from}
use Rattle.no_verify_paths.proofs.labels.first_blocks.Given as goal

abbrev pub invariant-loop-number : goal.invariant-loop-number
invariant-loop-number l = (label : ℕ) → at l.table.items label ≡ first_from l.number (drop l.number l.blocks) label
