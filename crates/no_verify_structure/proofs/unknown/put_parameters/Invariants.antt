use Rattle.std.proofs.Common.{map, take, ℕ, ◌||◌, ◌≡◌}
use Rattle.no_verify_structure.specs.Names.{is_in}
use Rattle.no_verify_structure.proofs.unknown.put_parameters.Given as goal

abbrev pub invariant-loop-parameter : goal.invariant-loop-parameter
invariant-loop-parameter l = (r : ℕ) → is_in l.registers r ≡ (is_in l.fn.registers r || is_in (map (λ p. p.0) (take l.parameter-index l.parameters)) r)
