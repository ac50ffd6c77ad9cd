use Rattle.std.proofs.Common.{◌≡◌, ◌++◌, drop, ℕ}
use Rattle.no_print.specs.Scopes.{spelled_by}
use Rattle.no_print.specs.Modules.{locals_of}
use Rattle.no_ir.specs.declared.instruction.Operand.{Operand}
use Rattle.no_print.specs.Instructions.{sized}
use Rattle.no_print.specs.Pieces.{behind_commas}
use Rattle.no_print.specs.Pieces.{written}
use Rattle.no_print.proofs.operands.put_steps.Given as goal

abbrev pub invariant-loop-step : goal.invariant-loop-step
invariant-loop-step l = l.fn.out.items ++ written (behind_commas (λ (i : ℕ × Operand). sized (spelled_by l.scope) (locals_of l.f) i.0 i.1) l.steps) ≡ l.out.items ++ written (behind_commas (λ (i : ℕ × Operand). sized (spelled_by l.scope) (locals_of l.f) i.0 i.1) (drop l.step-index l.steps))
