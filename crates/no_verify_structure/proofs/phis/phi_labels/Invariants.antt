use Rattle.std.proofs.Common.{take, ℕ, ◌≡◌}
use Rattle.no_verify_structure.specs.Names.{is_in}
use Rattle.no_module.specs.Instructions.{pair_labels}
use Rattle.no_verify_structure.proofs.phis.phi_labels.Given as goal

abbrev pub invariant-loop-pair : goal.invariant-loop-pair
invariant-loop-pair l = (x : ℕ) → is_in l.all x ≡ is_in (pair_labels (take l.pair-index l.pairs)) x
