-- The call graph of a module, with a set for each function and one for each type of calls through a pointer.
use Rattle.std.specs.Prelude.{◌≡◌, ℕ, List, length, Vec}
use Rattle.std.specs.Global.{Global}
use Rattle.std.specs.List.{Contains}
use Rattle.no_ir.specs.declared.function.Module.{Module}
use Rattle.no_calls.specs.Calling.{MayCall}
use Rattle.no_calls.specs.Rows.{row}

-- the sets of functions that each function calls, and those that each function is in
pub record Links : Type 0 where
  pub uses : List (Vec ℕ Global)
  pub within : List (Vec ℕ Global)

-- function a calls a set that function k is in
abbrev pub Calls : Links → ℕ → ℕ → Type 0
Calls links a k = (s : ℕ) × Contains (row links.uses a) s × Contains (row links.within k) s

-- a function calls another in the graph just where it may call it in the module
pub record IsGraphOf (m : Module) (links : Links) : Type 0 where
  pub callers : length links.uses ≡ length m.functions
  pub count : length links.within ≡ length m.functions
  pub there : (a k : ℕ) → MayCall m a k → Calls links a k
  pub only : (a k : ℕ) → Calls links a k → MayCall m a k
