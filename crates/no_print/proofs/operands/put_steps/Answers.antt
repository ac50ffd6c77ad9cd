use Rattle.std.proofs.Common.{ℕ, List, ◌++◌, refl}
use Rattle.no_print.specs.Scopes.{spelled_by}
use Rattle.no_print.specs.Modules.{locals_of}
use Rattle.no_ir.specs.declared.instruction.Operand.{Operand}
use Rattle.no_print.specs.Instructions.{sized}
use Rattle.no_print.specs.Pieces.{behind_commas, comma}
use Rattle.no_print.proofs.Lists.{list_step}
use Rattle.no_print.proofs.operands.put_steps.Goals as goal

pub loop-step-preserved : goal.loop-step-preserved
loop-step-preserved c =
    list_step (λ (all : List (ℕ × Operand)). behind_commas (λ (i : ℕ × Operand). sized (spelled_by c.args.scope.now) (locals_of c.args.f.now) i.0 i.1) all) (λ (i : ℕ × Operand). comma ++ sized (spelled_by c.args.scope.now) (locals_of c.args.f.now) i.0 i.1) (λ x xs. refl) _ _ _ c.args.steps.now c.loop-step.step-index c.step-item.result
    c.loop-step-test.true c.step-item.is c.loop-step.invariant c.in_ok-put_step.ensures
