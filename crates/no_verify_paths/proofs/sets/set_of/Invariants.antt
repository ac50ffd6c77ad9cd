use Rattle.std.proofs.Common.{◌≡◌, ℕ, take}
use Rattle.no_verify_paths.specs.Words.{has}
use Rattle.no_verify_paths.specs.Judge.{is_in_row}
use Rattle.no_verify_paths.proofs.sets.set_of.Given as goal

abbrev pub invariant-loop-register : goal.invariant-loop-register
invariant-loop-register l = (i : ℕ) → has l.word i ≡ is_in_row (take l.register-index l.registers) i
