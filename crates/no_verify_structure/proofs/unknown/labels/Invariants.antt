use Rattle.std.proofs.Common.{take, ℕ, ◌≡◌}
use Rattle.no_verify_structure.specs.Names.{blocks_labels, is_in}
use Rattle.no_verify_structure.proofs.unknown.labels.Given as goal

abbrev pub invariant-loop-block : goal.invariant-loop-block
invariant-loop-block l = (x : ℕ) → is_in l.all x ≡ is_in (blocks_labels (take l.block-index l.function.blocks)) x
