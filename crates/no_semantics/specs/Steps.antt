-- Steps that go on, one after another.
use Rattle.std.specs.Prelude.{◌≡◌, ℕ, zero, suc, ◌+◌, List, [], ◌++◌, Option, Some, None, option_map}
use Rattle.no_semantics.specs.Acting.{row}
use Rattle.no_semantics.specs.Rows.{Row, Next, Goes}
use Rattle.no_semantics.specs.States.{State}
use Rattle.no_semantics.specs.Values.{Program}

-- what some steps write, what they cost, and the state that they lead to
pub record Reached : Type 0 where
  pub output : List ℕ
  pub count : ℕ
  pub state : State

-- no steps at all
abbrev pub here : State → Reached
here s = record { output = []; count = 0; state = s }

-- bytes and a cost before all that follows
abbrev pub from_there : List ℕ → ℕ → Reached → Reached
from_there bytes cost r = record { output = bytes ++ r.output; count = cost + r.count; state = r.state }

-- what is reached by way of an instruction that goes on, none by any other
abbrev pub reached_by : ℕ → Next → (State → Option Reached) → Option Reached
reached_by cost (Goes bytes call t) rest = option_map (from_there bytes cost) (rest t)
reached_by cost _ rest = None

-- what is reached from a state, by the row of its next instruction
abbrev pub reached_from : Row → (State → Option Reached) → Option Reached
reached_from r rest = reached_by r.cost r.next rest

-- what n steps reach, where all of them go on
abbrev pub after : Program → ℕ → State → Option Reached
after p zero s = Some (here s)
after p (suc n) s = reached_from (row p s) (after p n)

-- some steps from the one state write these bytes, cost so much and lead to the other
abbrev pub Steps : Program → State → List ℕ → ℕ → State → Type 0
Steps p s bytes count t = (n : ℕ) × (after p n s ≡ Some (record { output = bytes; count = count; state = t }))
