use Rattle.std.proofs.Common.{◌≡◌, ◌∷◌, map, take}
use Rattle.no_ir.specs.declared.types.Ty.{Ty}
use Rattle.no_ir.specs.declared.instruction.Operand.{Operand}
use Rattle.no_calls.specs.Shapes.{result_code, type_code}
use Rattle.no_calls.proofs.shapes.call_shape.Given as goal

abbrev pub invariant-loop-arg : goal.invariant-loop-arg
invariant-loop-arg l = l.shape.items ≡ result_code l.t ∷ map (λ (a : Ty × Operand). type_code a.0) (take l.arg-index l.args)
