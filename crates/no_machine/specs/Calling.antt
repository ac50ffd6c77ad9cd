-- What a call or a return does to slots and to what is kept of callers.
use Rattle.std.specs.Prelude.{ℕ, ◌+◌, ◌-◌, ◌<◌, ◌≤◌, ◌≡◌, Bool, true, false, Option, Some, None, List, [], ◌∷◌, ◌++◌, length, map, take, drop, slice_get, slice_range, slice_set}
use Rattle.no_ir.specs.declared.ending.Trap.TheVariants.{StackOverflow}
use Rattle.no_layout.specs.Memory.{stack_start}
use Rattle.no_semantics.specs.Calls.{call_room}
use Rattle.no_code.specs.Slots.{first_constant}
use Rattle.no_code.specs.declared.code.Argument.{Argument}
use Rattle.no_code.specs.declared.code.Code.{Code}
use Rattle.no_code.specs.declared.code.Home.{Home}
use Rattle.no_code.specs.declared.code.Place.{Place}
use Rattle.no_machine.specs.Slots.{IsSlotIn, value_in}
use Rattle.no_machine.specs.declared.frame.Saved.{Saved}
use Rattle.no_machine.specs.declared.turn.Stop.TheVariants as stop
use Rattle.no_machine.specs.declared.turn.Turn.{Turn}
use Rattle.no_machine.specs.declared.turn.Turn.TheVariants as turn

-- each parameter's slot gets its number
abbrev pub passed_to : List Argument → List ℕ → List ℕ → List ℕ
passed_to (q ∷ params) (n ∷ ns) window = passed_to params ns (slice_set window q.slot n)
passed_to _ _ window = window

-- the number of an argument
abbrev pub argument_in : List ℕ → List ℕ → Argument → ℕ
argument_in window constants a = value_in window constants a.slot

-- the home of the function of a cell
pub record IsHomeAt (code : Code) (at : ℕ) (home : Home) : Type 0 where
  pub place : Place
  pub place_is : slice_get code.places at ≡ Some place
  pub is : slice_get code.homes place.function ≡ Some home

-- what a call of function f needs, with arguments in a range, at a cell and in a window
pub record IsReadyCall (code : Code) (declared : List Bool) (window : List ℕ) (at f from to : ℕ) : Type 0 where
  pub home : Home
  pub home_is : IsHomeAt code at home
  pub room : home.registers < length window
  pub callee : Home
  pub callee_is : slice_get code.homes f ≡ Some callee
  pub outside : Bool
  pub outside_is : slice_get declared f ≡ Some outside
  pub ordered : from ≤ to
  pub within : to ≤ length code.arguments
  pub params_ordered : callee.from ≤ callee.to
  pub params_within : callee.to ≤ length code.arguments
  pub each : (k : ℕ) (a : Argument) → slice_get (slice_range code.arguments from to) k ≡ Some a → IsSlotIn (take (home.registers + 1) window) code.constants a.slot

-- nothing changed
pub record IsUntouched (slots new : List ℕ) (frames now : List Saved) (sp after : ℕ) : Type 0 where
  pub same_slots : new ≡ slots
  pub same_frames : now ≡ frames
  pub same_stack : after ≡ sp

-- a call of a defined function began
pub record HasCalled (code : Code) (outside : Bool) (home callee : Home) (at base into from to start above : ℕ) (slots new : List ℕ) (frames now : List Saved) (sp after : ℕ) : Type 0 where
  pub defined : outside ≡ false
  pub above_is : above ≡ base + home.registers + 1
  pub start_is : start ≡ callee.start
  pub high : stack_start + call_room ≤ sp
  pub stack : after ≡ sp - call_room
  pub few : callee.registers < first_constant
  pub room : above + callee.registers < length slots
  pub kept : now ≡ frames ++ record { next = at + 1; base = base; into = into; sp = sp } ∷ []
  pub below : take above new ≡ take above slots
  pub passed : drop above new ≡ passed_to (slice_range code.arguments callee.from callee.to) (map (argument_in (drop base (take above slots)) code.constants) (slice_range code.arguments from to)) (drop above slots)

-- what a call did, by its answer
abbrev pub Called : Turn → Code → Bool → Home → Home → ℕ → ℕ → ℕ → ℕ → ℕ → List ℕ → List ℕ → List Saved → List Saved → ℕ → ℕ → Type 0
Called (turn.On start above) code outside home callee at base into from to slots new frames now sp after = HasCalled code outside home callee at base into from to start above slots new frames now sp after
Called (turn.Halt _ _ stop.Outside) code outside home callee at base into from to slots new frames now sp after = (outside ≡ true) × IsUntouched slots new frames now sp after
Called (turn.Halt _ _ (stop.Trapped t)) code outside home callee at base into from to slots new frames now sp after = (outside ≡ false) × (sp < stack_start + call_room) × (t ≡ StackOverflow) × IsUntouched slots new frames now sp after
Called (turn.Halt _ _ stop.Grow) code outside home callee at base into from to slots new frames now sp after = IsUntouched slots new frames now sp after
Called (turn.Halt _ _ stop.NoMemory) code outside home callee at base into from to slots new frames now sp after = IsUntouched slots new frames now sp after
Called (turn.Halt _ _ _) code outside home callee at base into from to slots new frames now sp after = ⊥

-- ---- returns

-- what is kept of the newest caller fits the slots
abbrev pub IsReadyReturn : List ℕ → List Saved → Type 0
IsReadyReturn slots frames = (front : List Saved) (w : Saved) → frames ≡ front ++ w ∷ [] → w.base + w.into < length slots

-- the slots with a result at a place, if there is one
abbrev pub given_at : Option ℕ → ℕ → List ℕ → List ℕ
given_at None place slots = slots
given_at (Some n) place slots = slice_set slots place n

-- what a return did, by its answer
abbrev pub GoesBack : Turn → Option ℕ → List ℕ → List ℕ → List Saved → List Saved → ℕ → ℕ → Type 0
GoesBack (turn.On next base) value slots new frames now sp after = (w : Saved) × (frames ≡ now ++ w ∷ []) × (next ≡ w.next) × (base ≡ w.base) × (new ≡ given_at value (w.base + w.into) slots) × (after ≡ w.sp)
GoesBack (turn.Halt _ _ (stop.Left v)) value slots new frames now sp after = (v ≡ value) × (frames ≡ []) × IsUntouched slots new frames now sp after
GoesBack (turn.Halt _ _ _) value slots new frames now sp after = ⊥
