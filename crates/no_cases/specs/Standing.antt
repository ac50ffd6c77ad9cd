-- Machines that may be run, and such that have not begun.
use Rattle.std.specs.Prelude.{◌≡◌, ◌≤◌, ℕ, true, List, [], None}
use Rattle.no_app.specs.Jobs.{AreBytes}
use Rattle.no_layout.specs.Memory.{Agrees}
use Rattle.no_lib.specs.declared.env.Env.{Env}
use Rattle.no_machine.specs.Ran.{IsAt, IsMade, budget_of, count_of, end_of, memory_of, program_of}
use Rattle.no_machine.specs.declared.machine.Machine.{Machine}
use Rattle.no_pages.specs.Table.{byte_of, held_of, regions_of}
use Rattle.no_pages.specs.declared.table.PageTable.{PageTable}
use Rattle.no_semantics.specs.Accepted.{Accepted}
use Rattle.no_semantics.specs.States.{HasNoMarks, State}

-- it stands for a state with this input still to come
abbrev pub StandsFor : Accepted → Machine PageTable → Env → List ℕ → State → Type 0
StandsFor a m env more s = IsAt byte_of held_of (program_of regions_of a m) m env more s

-- a machine of a module that has ended, or stands for a state, whatever bytes follow in the input
pub record IsReady (a : Accepted) (m : Machine PageTable) (env : Env) : Type 0 where
  pub made : IsMade a m
  pub within : count_of m ≤ budget_of m
  pub at : end_of m ≡ None → (more : List ℕ) → AreBytes more → (env.ended ≡ true → more ≡ []) → (s : State) × StandsFor a m env more s

-- a machine at its beginning stands for a state of each memory that agrees with the pages that are there
pub record IsFresh (a : Accepted) (m : Machine PageTable) (env : Env) : Type 0 where
  pub made : IsMade a m
  pub marks : HasNoMarks a.«module»
  pub uncounted : count_of m ≡ 0
  pub goes_on : end_of m ≡ None
  pub at : (whole : ℕ → ℕ) → Agrees (held_of (memory_of m)) (byte_of (memory_of m)) whole → (more : List ℕ) → AreBytes more → (env.ended ≡ true → more ≡ [])
      → (s : State) × (s.byte ≡ whole) × StandsFor a m env more s
