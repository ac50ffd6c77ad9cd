-- First parts of a run, as far as something has come that runs a program.
use Rattle.std.specs.Prelude.{◌≡◌, ℕ, ◌≤◌, Bool, true, List, [], ◌++◌, Some}
use Rattle.no_lib.specs.declared.env.Env.{Env}
use Rattle.no_machine.specs.Turning.{NeverStuck}
use Rattle.no_semantics.specs.Accepted.{Accepted}
use Rattle.no_semantics.specs.First.{program_of}
use Rattle.no_semantics.specs.Runs.{IsRun, Ran}
use Rattle.no_semantics.specs.Starts.{start_of}
use Rattle.no_semantics.specs.States.{State}
use Rattle.no_semantics.specs.Steps.{Steps}

-- a program has a run on an input within a budget, and never gets stuck from where that begins
pub record MayRun (a : Accepted) (given : List ℕ) (budget : ℕ) : Type 0 where
  pub begin : State
  pub begins : start_of a given ≡ Some begin
  pub never : NeverStuck (program_of a) begin
  pub ran : Ran
  pub run : IsRun a given budget ran

-- the run on an input writes these bytes and counts so much up to one of its states, within a budget
pub record HasWay (a : Accepted) (budget : ℕ) (given bytes : List ℕ) (count : ℕ) : Type 0 where
  pub begin : State
  pub begins : start_of a given ≡ Some begin
  pub state : State
  pub steps : Steps (program_of a) begin bytes count state
  pub within : count ≤ budget

-- what runs a program stands at the beginning of the run on each input on which there is one, of which the environment has any first bytes; `on` says
-- where it stands, and the numbers are what it counted and its own budget
pub record IsFresh {E : Type 0} (on : E → Env → List ℕ → List ℕ → List ℕ → Type 0) (counted limit : E → ℕ) (a : Accepted) (budget : ℕ) (e : E) : Type 0 where
  pub starts : (given : List ℕ) → MayRun a given budget → (env : Env) (more : List ℕ) → given ≡ env.input ++ more → (env.ended ≡ true → more ≡ []) → env.output.items ≡ [] → on e env more given []
  pub uncounted : counted e ≡ 0
  pub allowed : limit e ≡ budget
