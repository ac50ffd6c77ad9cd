-- Calls of the two externals of a server's part.
use Rattle.std.proofs.Common.{◌≡◌, ℕ, ◌+◌, Bool, List, Option, Some, drop, map, slice_range, sym, ap, subst, ◌∙◌}
use Rattle.no_ir.specs.declared.function.Function.{Function}
use Rattle.no_layout.specs.declared.memory.Regions.{Regions}
use Rattle.no_module.specs.declared.external.External.{External}
use Rattle.no_module.specs.declared.external.External.TheVariants as external
use Rattle.no_semantics.specs.Results.{Valued}
use Rattle.no_code.specs.declared.code.Code.{Code}
use Rattle.no_machine.specs.Calling.{argument_in}
use Rattle.no_machine.specs.Outside.{Around, DoesExternal, IsCalm, Stack, Yields, map_value, room_value}
use Rattle.no_machine.specs.declared.out.Out.{Out}

-- the same of the same numbers
pub yields_same : (value : List ℕ → Valued) (ns ms : List ℕ) (sp_after : ℕ → ℕ) (at base place : ℕ) (k : Stack) (result : Out) → ns ≡ ms → Yields (value ns) sp_after at base place k result → Yields (value ms) sp_after at base place k result
yields_same value ns ms sp_after at base place k result e y = subst (λ (l : List ℕ). Yields (value l) sp_after at base place k result) e y

module _ (entry : Option External) (which : External) (entry_is : entry ≡ Some which) (functions : List Function) (r q : Regions) (held held' own own' : ℕ → Bool) (code : Code) (left at base into from to : ℕ) (k : Stack) (a : Around) (result : Out) (calm : IsCalm a) where
  abbrev Goal : Type 0
  Goal = DoesExternal entry functions r q held held' own own' code left at base into from to k a result

  pub alloca_does : which ≡ external.Alloca → Yields (room_value k.sp (map (argument_in (drop base k.slots) code.constants) (slice_range code.arguments from to))) (λ n. n) at base (base + into) k result → Goal
  alloca_does is y = subst (λ (e : Option External). DoesExternal e functions r q held held' own own' code left at base into from to k a result) (sym (entry_is ∙ ap Some is)) (calm, y)

  pub map_does : which ≡ external.Map → Yields (map_value functions (map (argument_in (drop base k.slots) code.constants) (slice_range code.arguments from to))) (λ n. k.sp) at base (base + into) k result → Goal
  map_does is y = subst (λ (e : Option External). DoesExternal e functions r q held held' own own' code left at base into from to k a result) (sym (entry_is ∙ ap Some is)) (calm, y)
