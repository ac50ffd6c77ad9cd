-- What many turns of the machine do.
use Rattle.std.specs.Prelude.{ℕ, ◌≡◌, Bool, List, []}
use Rattle.no_semantics.specs.States.{State}
use Rattle.no_semantics.specs.Values.{Program}
use Rattle.no_machine.specs.Each.{HasPages, StepsEach}
use Rattle.no_machine.specs.Turning.{IsHere, Stopped}
use Rattle.no_machine.specs.declared.frame.Saved.{Saved}
use Rattle.no_machine.specs.declared.turn.Stop.{Stop}
use Rattle.no_machine.specs.declared.turn.Stop.TheVariants as stop

-- why no further one was done
abbrev pub Halted : Program → Stop → (ℕ → Bool) → State → Type 0
Halted p stop.Spent held s = Unit {0}
Halted p why held s = Stopped p why held s

-- the state that was reached by instructions that each cost 1, write nothing and had their pages, and why no further one was done
pub record HasSpun (p : Program) (why : Stop) (count at base sp : ℕ) (slots : List ℕ) (frames : List Saved) (held : ℕ → Bool) (byte : ℕ → ℕ) (s : State) : Type 0 where
  pub state : State
  pub steps : StepsEach (HasPages held) p s [] count state
  pub here : IsHere p at base sp slots frames held byte state
  pub heap : state.heap ≡ s.heap
  pub input : state.input ≡ s.input
  pub stopped : Halted p why held state
