use Rattle.std.proofs.Common.{◌≡◌, ◌∷◌, ℕ, map, take}
use Rattle.no_ir.specs.declared.types.Ty.{Ty}
use Rattle.no_calls.specs.Shapes.{result_code, type_code}
use Rattle.no_calls.proofs.shapes.function_shape.Given as goal

abbrev pub invariant-loop-param : goal.invariant-loop-param
invariant-loop-param l = l.shape.items ≡ result_code l.function.result ∷ map (λ (p : ℕ × Ty). type_code p.1) (take l.param-index l.param-items)
