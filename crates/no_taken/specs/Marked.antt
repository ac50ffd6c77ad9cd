-- Flags that are set by number, and those of the functions whose address is taken.
use Rattle.std.specs.Prelude.{◌≡◌, ◌<◌, ℕ, Bool, true, false, nat_eq, List, [], ◌∷◌, length, slice_index_or, slice_set}
use Rattle.std.specs.List.{list_any}
use Rattle.no_ir.specs.declared.function.Module.{Module}
use Rattle.no_semantics.specs.Taken.{module_taken}

-- the flags with those of these numbers set, one after another; a number that is none's sets nothing
abbrev pub marked : List ℕ → List Bool → List Bool
marked [] flags = flags
marked (k ∷ more) flags = marked more (slice_set flags k true)

-- for each function whether the module takes its address
abbrev pub AreTaken : Module → List Bool → Type 0
AreTaken m taken = (k : ℕ) → k < length m.functions → slice_index_or taken k false ≡ list_any (nat_eq k) (module_taken m)
