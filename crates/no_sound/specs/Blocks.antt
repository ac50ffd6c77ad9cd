-- Blocks of a module, by the numbers of a function and of the block in it.
use Rattle.std.specs.Prelude.{ℕ, slice_get, Option, Some, None}
use Rattle.no_ir.specs.declared.function.Block.{Block}
use Rattle.no_ir.specs.declared.function.Function.{Function}
use Rattle.no_ir.specs.declared.function.Module.{Module}

-- what is made of a part, and another thing where it is missing
abbrev pub given : {A B : Type 0} → B → Option A → (A → B) → B
given other None make = other
given other (Some x) make = make x

-- block b of function k
abbrev pub block_in : Module → ℕ → ℕ → Option Block
block_in m k b = given None (slice_get m.functions k) (λ (f : Function). slice_get f.blocks b)
