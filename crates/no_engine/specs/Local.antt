-- The machine over a memory with all its pages, as far as it has run a program.
use Rattle.std.specs.Prelude.{◌≡◌, ℕ, ◌<◌, ◌≤◌, true, List, [], ◌++◌, Option, Some, None}
use Rattle.std.proofs.Common.{◌∙◌, subst}
use Rattle.no_layout.specs.Memory.{AreFormed}
use Rattle.no_lib.specs.declared.env.Env.{Env}
use Rattle.no_pages.specs.Table.{byte_of, held_of, regions_of}
use Rattle.no_pages.specs.declared.table.PageTable.{PageTable}
use Rattle.no_machine.specs.Ran.{IsAt, IsMade, budget_of, count_of, end_of, memory_of}
use Rattle.no_machine.specs.Ran as machine
use Rattle.no_machine.specs.declared.machine.Machine.{Machine}
use Rattle.no_semantics.specs.Accepted.{Accepted}
use Rattle.no_semantics.specs.First.{program_of}
use Rattle.no_semantics.specs.Runs.{IsRun, Ran}
use Rattle.no_semantics.specs.Starts.{start_of}
use Rattle.no_semantics.specs.States.{HasNoMarks, State}
use Rattle.no_semantics.specs.Steps.{Steps}
use Rattle.no_semantics.specs.Values.{Program}
use Rattle.no_engine.specs.Parts.{HasWay}

-- the machine of a device alone
abbrev pub Local : Type 0
Local = Machine PageTable

-- the program that it runs
abbrev pub own : Accepted → Local → Program
own a m = machine.program_of regions_of a m

-- it stands for a state
abbrev pub StandsFor : Accepted → Local → Env → List ℕ → State → Type 0
StandsFor a m env more s = IsAt byte_of held_of (own a m) m env more s

-- its memory has all pages
pub record HasPages (m : Local) : Type 0 where
  pub formed : AreFormed (regions_of (memory_of m))
  pub held : (page : ℕ) → page < 131328 → held_of (memory_of m) page ≡ true

-- it runs an accepted program, all of whose instructions count, and has not ended
pub record IsStanding (a : Accepted) (m : Local) : Type 0 where
  pub going : end_of m ≡ None
  pub within : count_of m ≤ budget_of m
  pub same_program : own a m ≡ program_of a
  pub made : IsMade a m
  pub marks : HasNoMarks a.«module»
  pub whole : HasPages m

-- it has done a first part of the run on an input, which there is: these bytes were written before the environment's output, and so much of the input
-- comes behind the environment's
pub record IsOnWay (a : Accepted) (m : Local) (env : Env) (more given flushed : List ℕ) : Type 0 where
  pub stands : IsStanding a m
  pub ran : Ran
  pub run : IsRun a given (budget_of m) ran
  pub begin : State
  pub begins : start_of a given ≡ Some begin
  pub state : State
  pub at : StandsFor a m env more state
  pub steps : Steps (program_of a) begin (flushed ++ env.output.items) (count_of m) state

-- a machine that has ended says no more of its run
abbrev pub HasEnded : Accepted → Local → List ℕ → Type 0
HasEnded a m given = Unit {0}

-- ---- the laws of an engine

-- so it has done a first part of that run
pub way_of : (a : Accepted) (m : Local) (env : Env) (more given flushed : List ℕ) → IsOnWay a m env more given flushed → HasWay a (budget_of m) given (flushed ++ env.output.items) (count_of m)
way_of a m env more given flushed on = record { begin = on.begin; begins = on.begins; state = on.state; steps = on.steps; within = on.stands.within }

-- it is as far in each environment of which the input is the same to the end, and the output with what was written before
pub moved : (a : Accepted) (m : Local) (env env' : Env) (more more' given flushed flushed' : List ℕ) → IsOnWay a m env more given flushed → env.input ++ more ≡ env'.input ++ more' → (env'.ended ≡ true → more' ≡ [])
    → flushed ++ env.output.items ≡ flushed' ++ env'.output.items → IsOnWay a m env' more' given flushed'
moved a m env env' more more' given flushed flushed' on same closed wrote = record {
  stands = on.stands;
  ran = on.ran;
  run = on.run;
  begin = on.begin;
  begins = on.begins;
  state = on.state;
  at = record { here = on.at.here; blocks = on.at.blocks; rest = on.at.rest ∙ same; last = closed };
  steps = subst (λ (bytes : List ℕ). Steps (program_of a) on.begin bytes (count_of m) on.state) wrote on.steps;
}
