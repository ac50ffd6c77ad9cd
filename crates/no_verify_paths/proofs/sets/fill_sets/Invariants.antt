use Rattle.std.proofs.Common.{◌≡◌, ℕ, take, slice_index}
use Rattle.no_verify_paths.specs.Words.{has}
use Rattle.no_verify_paths.specs.Judge.{is_made}
use Rattle.no_verify_paths.proofs.sets.fill_sets.Given as goal

abbrev pub invariant-loop-pair : goal.invariant-loop-pair
invariant-loop-pair l = (b i : ℕ) → has (slice_index l.gens b) i ≡ is_made (take l.pair-index l.assignments) b i
