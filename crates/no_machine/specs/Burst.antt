-- A burst of a run: instructions inside, and then at most one from outside.
use Rattle.std.specs.Prelude.{◌≡◌, ◌⊎◌, ℕ, Bool, true, false, ◌+◌, ◌-◌, ◌%◌, ◌<◌, ◌≤◌, List, [], ◌++◌, Option, Some, None}
use Rattle.no_ir.specs.declared.ending.End.{End}
use Rattle.no_ir.specs.declared.ending.End.TheVariants as end
use Rattle.no_lib.specs.declared.env.Env.{Env}
use Rattle.no_semantics.specs.Acting.{step}
use Rattle.no_semantics.specs.Rows.{Row, EndsSo, HasNoMeaning, needed}
use Rattle.no_semantics.specs.Spans.{AreHeld, IsLowestAbsent}
use Rattle.no_semantics.specs.States.{State}
use Rattle.no_semantics.specs.Values.{Program}
use Rattle.no_machine.specs.Each.{HasPages, StepsEach}
use Rattle.no_machine.specs.Ran.{GoesOn, IsAt, left_of}
use Rattle.no_machine.specs.declared.burst.Burst.{Burst}
use Rattle.no_machine.specs.declared.burst.Burst.TheVariants as burst
use Rattle.no_machine.specs.declared.machine.Machine.{Machine}
use Rattle.no_machine.specs.declared.machine.StepAnswer.{StepAnswer}
use Rattle.no_machine.specs.declared.machine.StepAnswer.TheVariants as answer
use Rattle.no_machine.specs.declared.out.Out.{Out}
use Rattle.no_machine.specs.declared.out.Out.TheVariants as out
use Rattle.no_machine.specs.declared.turn.Stop.{Stop}
use Rattle.no_machine.specs.declared.turn.Stop.TheVariants as stop

-- why a burst is over at a state behind some steps, whose next row this is
abbrev pub Pauses : {M : Type 0} → (ℕ → Bool) → Burst → ℕ → Row → Machine M → Machine M → Env → Type 0
Pauses held burst.Stepped cost row old new after = GoesOn cost old new × (0 < cost)
Pauses held burst.Room cost row old new after = GoesOn cost old new
Pauses held (burst.WantPage page) cost row old new after = GoesOn cost old new × IsLowestAbsent held (needed row) page
Pauses held burst.WantInput cost row old new after = GoesOn cost old new × (row.asks ≡ true) × (after.input ≡ []) × (after.ended ≡ false)
Pauses held (burst.Ended e) cost row old new after = EndsSo row.next e × AreHeld held row.sought × (new.count ≡ old.count + (cost + row.cost)) × (new.end ≡ Some e)
Pauses held burst.Stuck cost row old new after = GoesOn cost old new × HasNoMeaning row.next
Pauses held burst.NoMemory cost row old new after = GoesOn cost old new

-- steps were taken that go on, within what was left, and then came this answer; the machine stands for the state that they reach. Where no more than one was to be done, one is what goes on, and nothing comes before another answer.
pub record HasBurst {M : Type 0} (byte : M → ℕ → ℕ) (held : M → ℕ → Bool) (p : Program) (most : ℕ) (told : Burst) (old new : Machine M) (before after : Env) (more : List ℕ) (s : State) : Type 0 where
  pub bytes : List ℕ
  pub cost : ℕ
  pub state : State
  pub steps : StepsEach (HasPages (held old.core.mem)) p s bytes cost state
  pub afforded : cost ≤ left_of old
  pub wrote : after.output.items ≡ before.output.items ++ bytes
  pub at : IsAt byte held p new after more state
  pub stops : Pauses (held new.core.mem) told cost (step p (left_of old - cost) state) old new after
  pub one : most ≡ 1 → told ≡ burst.Stepped → steps.number ≡ 1
  pub none : most ≡ 1 → (told ≡ burst.Stepped) ⊎ (cost ≡ 0)

-- ---- what is counted and told

-- what a burst tells, by why no further instruction was done inside
abbrev pub told_of : Stop → Burst
told_of (stop.Trapped t) = burst.Ended (end.Trapped t)
told_of (stop.Left (Some n)) = burst.Ended (end.Exited (n % 256))
told_of (stop.Left None) = burst.Stuck
told_of (stop.WantPage page) = burst.WantPage page
told_of stop.NoMemory = burst.NoMemory
told_of stop.Outside = burst.NoMemory
told_of stop.Grow = burst.Room
told_of stop.Spent = burst.Stepped

-- what the last instruction counts, by why no further one was done inside
abbrev pub cost_of : Stop → ℕ
cost_of (stop.Trapped t) = 1
cost_of (stop.Left (Some n)) = 1
cost_of _ = 0

-- what a burst tells, by what came of an instruction outside
abbrev pub told_by : Out → Burst
told_by (out.On at base cost) = burst.Stepped
told_by (out.Exited status) = burst.Ended (end.Exited status)
told_by (out.Trapped t) = burst.Ended (end.Trapped t)
told_by out.Over = burst.Ended end.Unfinished
told_by out.Stuck = burst.Stuck
told_by (out.WantPage page) = burst.WantPage page
told_by out.WantInput = burst.WantInput
told_by out.Grow = burst.Room
told_by out.NoMemory = burst.NoMemory

-- what an instruction outside counts, by what came of it
abbrev pub cost_by : Out → ℕ
cost_by (out.On at base cost) = cost
cost_by (out.Exited status) = 1
cost_by (out.Trapped t) = 1
cost_by _ = 0

-- the end of a run by a burst
abbrev pub end_by : Burst → Option End
end_by (burst.Ended e) = Some e
end_by _ = None

-- what a run answers behind a burst, where it goes no further
abbrev pub answer_of : Burst → StepAnswer
answer_of burst.Stepped = answer.Stepped
answer_of burst.Room = answer.NoMemory
answer_of (burst.WantPage page) = answer.WantPage page
answer_of burst.WantInput = answer.WantInput
answer_of (burst.Ended e) = answer.Ended e
answer_of burst.Stuck = answer.Stuck
answer_of burst.NoMemory = answer.NoMemory
