-- Whole runs within a budget.
use Rattle.std.specs.Prelude.{◌≡◌, ℕ, zero, suc, ◌+◌, ◌-◌, ◌%◌, List, [], ◌++◌, Option, Some, None, option_map}
use Rattle.no_ir.specs.declared.ending.End.{End}
use Rattle.no_ir.specs.declared.ending.End.TheVariants.{Exited}
use Rattle.no_semantics.specs.Accepted.{Accepted}
use Rattle.no_semantics.specs.Acting.{step}
use Rattle.no_semantics.specs.First.{program_of}
use Rattle.no_semantics.specs.Rows.{Row, Next, Goes, Leaves, Ends, Stuck}
use Rattle.no_semantics.specs.Starts.{start_of, at_entry}
use Rattle.no_semantics.specs.States.{State}
use Rattle.no_semantics.specs.Values.{Program}

-- how a run finishes: its first frame returns, or it ends
pub data Finish : Type 0 where
  Returned : (value : Option ℕ) → Finish
  Ended : (end : End) → Finish

-- what a run writes, how much it counts, how it finishes, and the state before its last instruction, whose memory and heap are those that it leaves
pub record Whole : Type 0 where
  pub output : List ℕ
  pub count : ℕ
  pub finish : Finish
  pub state : State

-- the run of one last instruction, which finishes so
abbrev pub finished : ℕ → Finish → State → Whole
finished cost finish s = record { output = []; count = cost; finish = finish; state = s }

-- bytes and a cost before the rest of a run
abbrev pub resumed : List ℕ → ℕ → Whole → Whole
resumed bytes cost w = record { output = bytes ++ w.output; count = cost + w.count; finish = w.finish; state = w.state }

-- the run from an instruction on, by what comes next; none where it gets stuck
abbrev pub whole_by : ℕ → Next → State → (State → Option Whole) → Option Whole
whole_by cost (Goes bytes call t) s rest = option_map (resumed bytes cost) (rest t)
whole_by cost (Leaves value) s rest = Some (finished cost (Returned value) s)
whole_by cost (Ends end) s rest = Some (finished cost (Ended end) s)
whole_by cost Stuck s rest = None

-- the run from a state on, by the row of its next instruction
abbrev pub whole_from : Row → State → (State → Option Whole) → Option Whole
whole_from r s rest = whole_by r.cost r.next s rest

-- the run from a state within what is left of a budget, where it finishes in fewer than n steps; one that gets stuck is none
abbrev pub within : Program → ℕ → ℕ → State → Option Whole
within p zero left s = None
within p (suc n) left s = whole_from (step p left s) s (within p n (left - (step p left s).cost))

-- this is the run from a state within what is left
abbrev pub Runs : Program → ℕ → State → Whole → Type 0
Runs p left s w = (n : ℕ) × (within p n left s ≡ Some w)

-- ---- from the entry of main

-- what the run of a program writes, how much it counts, and how it ends
pub record Ran : Type 0 where
  pub output : List ℕ
  pub count : ℕ
  pub end : End

-- a return of main ends the run with the low 8 bits
abbrev pub end_of : Finish → Option End
end_of (Returned (Some n)) = Some (Exited (n % 256))
end_of (Returned None) = None
end_of (Ended end) = Some end

-- the run of a program, from what it wrote, what it counted and its end
abbrev pub ran_by : List ℕ → ℕ → End → Ran
ran_by output count end = record { output = output; count = count; end = end }

-- the run of a program, from the run of its main; none where main returns nothing
abbrev pub ran_of : Whole → Option Ran
ran_of w = option_map (ran_by w.output w.count) (end_of w.finish)

-- this is the run of an accepted program on an input within a budget
pub record IsRun (a : Accepted) (input : List ℕ) (budget : ℕ) (r : Ran) : Type 0 where
  pub begin : State
  pub begins : start_of a input ≡ Some begin
  pub whole : Whole
  pub runs : Runs (program_of a) budget begin whole
  pub is : ran_of whole ≡ Some r

-- ---- from the entry of any function

-- this is the run of a call of function k in a state, to its return or to the run's end, within what is left
pub record IsFrom (p : Program) (s : State) (k : ℕ) (arguments : List ℕ) (left : ℕ) (w : Whole) : Type 0 where
  pub begin : State
  pub begins : at_entry p s k arguments ≡ Some begin
  pub runs : Runs p left begin w
