-- Steps that go on, of each of whose rows something holds.
use Rattle.std.specs.Prelude.{◌≡◌, ℕ, zero, suc, Bool, List, Some}
use Rattle.no_semantics.specs.Acting.{row}
use Rattle.no_semantics.specs.Rows.{Row, Next, Goes, needed}
use Rattle.no_semantics.specs.Spans.{AreHeld}
use Rattle.no_semantics.specs.States.{State}
use Rattle.no_semantics.specs.Steps.{after}
use Rattle.no_semantics.specs.Values.{Program}

-- something holds of what comes next, where that is a state
abbrev pub ThenAll : Next → (State → Type 0) → Type 0
ThenAll (Goes bytes call t) rest = rest t
ThenAll _ rest = ⊥

-- it holds of each row of n steps
abbrev pub AllRows : (Row → Type 0) → Program → ℕ → State → Type 0
AllRows P p zero s = Unit {0}
AllRows P p (suc n) s = P (row p s) × ThenAll (row p s).next (AllRows P p n)

-- some steps from the one state write these bytes, cost so much and lead to the other, and it holds of each of their rows
pub record StepsEach (P : Row → Type 0) (p : Program) (s : State) (bytes : List ℕ) (count : ℕ) (t : State) : Type 0 where
  pub number : ℕ
  pub is : after p number s ≡ Some (record { output = bytes; count = count; state = t })
  pub each : AllRows P p number s

-- all pages that it needs are there
abbrev pub HasPages : (ℕ → Bool) → Row → Type 0
HasPages held row = AreHeld held (needed row)
