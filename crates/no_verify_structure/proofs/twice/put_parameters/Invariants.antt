use Rattle.std.proofs.Common.{drop, not, take, ℕ, ◌≡◌}
use Rattle.no_ir.specs.declared.types.Ty.{Ty}
use Rattle.no_verify_structure.specs.Finding.{first_break}
use Rattle.no_verify_structure.specs.Names.{is_in}
use Rattle.no_verify_structure.specs.Twice.{parameter_registers}
use Rattle.no_verify_structure.proofs.twice.put_parameters.Given as goal

abbrev pub invariant-loop-param : goal.invariant-loop-param
invariant-loop-param l = record { registers : l.registers ≡ parameter_registers (take l.param-index l.params); rest : first_break (λ k (p : ℕ × Ty). not (is_in (parameter_registers (take k l.params)) p.0)) 0 l.params ≡ first_break (λ k (p : ℕ × Ty). not (is_in (parameter_registers (take k l.params)) p.0)) l.param-index (drop l.param-index l.params) }
