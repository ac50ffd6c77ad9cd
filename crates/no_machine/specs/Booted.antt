-- How a machine begins.
use Rattle.std.specs.Prelude.{◌≡◌, ◌<◌, ◌+◌, ◌*◌, ℕ, Bool, true, List, [], ◌++◌, Some, None, length, slice_index}
use Rattle.no_ir.specs.declared.function.Function.{Function}
use Rattle.no_layout.specs.Memory.{Agrees}
use Rattle.no_layout.specs.declared.memory.Regions.{Regions}
use Rattle.no_lib.specs.declared.env.Env.{Env}
use Rattle.no_semantics.specs.Accepted.{Accepted}
use Rattle.no_semantics.specs.Starts.{main_from, start}
use Rattle.no_semantics.specs.States.{State}
use Rattle.no_machine.specs.Ran.{IsAt, IsMade, budget_of, count_of, end_of, memory_of, program_of}
use Rattle.no_machine.specs.Turning.{NeverStuck}
use Rattle.no_machine.specs.declared.machine.Machine.{Machine}

-- the number of the first function of the name main
pub record IsMain (functions : List Function) (k : ℕ) : Type 0 where
  pub is : main_from 0 functions ≡ Some k
  pub inside : k < length functions

-- it stands where runs begin, over each whole memory of which it has pages, with an input of which the environment has the first bytes
pub record IsBooted {M : Type 0} (byte : M → ℕ → ℕ) (held : M → ℕ → Bool) (regions : M → Regions) (a : Accepted) (addresses : List ℕ) (mem : M) (budget : ℕ) (m : Machine M) : Type 0 where
  pub made : IsMade a m
  pub starts : (whole : ℕ → ℕ) (input : List ℕ) (s : State) → start (program_of regions a m) whole input ≡ Some s → Agrees (held mem) (byte mem) whole → NeverStuck (program_of regions a m) s
      → (env : Env) (more : List ℕ) → input ≡ env.input ++ more → (env.ended ≡ true → more ≡ []) → IsAt byte held (program_of regions a m) m env more s
  pub uncounted : count_of m ≡ 0
  pub allowed : budget_of m ≡ budget
  pub goes_on : end_of m ≡ None
  pub memory : memory_of m ≡ mem
  pub globals : m.addresses ≡ addresses

-- a page of a whole memory has these bytes
abbrev pub HasPage : (ℕ → ℕ) → ℕ → List ℕ → Type 0
HasPage whole page bytes = (k : ℕ) → k < length bytes → slice_index bytes k ≡ whole (4096 * page + k)
