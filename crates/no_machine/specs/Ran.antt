-- A machine, and what a run of it does.
use Rattle.std.specs.Prelude.{◌≡◌, ℕ, Bool, true, false, ◌+◌, ◌-◌, ◌≤◌, List, [], ◌++◌, Option, Some, None}
use Rattle.no_ir.specs.declared.ending.End.{End}
use Rattle.no_layout.specs.declared.memory.Regions.{Regions}
use Rattle.no_lib.specs.declared.env.Env.{Env}
use Rattle.no_semantics.specs.Accepted.{Accepted}
use Rattle.no_semantics.specs.Acting.{step}
use Rattle.no_semantics.specs.Rows.{Row, Calling, Goes, HasNoMeaning, needed}
use Rattle.no_semantics.specs.Runs as runs
use Rattle.no_semantics.specs.Spans.{AreHeld, IsLowestAbsent}
use Rattle.no_semantics.specs.States.{State}
use Rattle.no_semantics.specs.Values.{Program}
use Rattle.no_taken.specs.Marked.{AreTaken}
use Rattle.no_machine.specs.Each.{HasPages, StepsEach}
use Rattle.no_machine.specs.Outside.{AreExternals}
use Rattle.no_machine.specs.Turning.{AreFacts, IsHere, program_with}
use Rattle.no_machine.specs.declared.machine.Machine.{Machine}
use Rattle.no_machine.specs.declared.machine.StepAnswer.{StepAnswer}
use Rattle.no_machine.specs.declared.machine.StepAnswer.TheVariants as answer

-- ---- what a machine holds

-- the program that a machine runs
abbrev pub program_of : {M : Type 0} → (M → Regions) → Accepted → Machine M → Program
program_of regions a m = program_with a m.addresses (regions m.core.mem)

-- its memory
abbrev pub memory_of : {M : Type 0} → Machine M → M
memory_of m = m.core.mem

-- what was counted so far
abbrev pub count_of : {M : Type 0} → Machine M → ℕ
count_of m = m.count

-- how much may be counted
abbrev pub budget_of : {M : Type 0} → Machine M → ℕ
budget_of m = m.budget

-- how the run ended, if it has
abbrev pub end_of : {M : Type 0} → Machine M → Option End
end_of m = m.end

-- what is left of its budget
abbrev pub left_of : {M : Type 0} → Machine M → ℕ
left_of m = m.budget - m.count

-- it was made for this module
pub record IsMade {M : Type 0} (a : Accepted) (m : Machine M) : Type 0 where
  pub facts : AreFacts a m.addresses m.code m.code.cells m.code.constants m.declared a.layout.big a.layout.pointer
  pub outside : AreExternals a.«module» a.role m.externals
  pub pointed : AreTaken a.«module» m.taken

-- it stands for a state from which no run gets stuck, with this input still to come
pub record IsAt {M : Type 0} (byte : M → ℕ → ℕ) (held : M → ℕ → Bool) (p : Program) (m : Machine M) (env : Env) (more : List ℕ) (s : State) : Type 0 where
  pub here : IsHere p m.core.at m.core.base m.core.sp m.core.slots.items m.core.frames.items (held m.core.mem) (byte m.core.mem) s
  pub blocks : s.heap ≡ m.core.heap
  pub rest : s.input ≡ env.input ++ more
  pub last : env.ended ≡ true → more ≡ []

-- ---- what stays

-- what no run changes: all but where the machine stands, what it counted and how it ended, and of its memory the regions and the pages held
pub record Stays {M : Type 0} (regions : M → Regions) (held : M → ℕ → Bool) (old new : Machine M) : Type 0 where
  pub rest : new ≡ record old { core = new.core; count = new.count; end = new.end }
  pub same_program : (a : Accepted) → program_of regions a new ≡ program_of regions a old
  pub same_addresses : new.addresses ≡ old.addresses
  pub same_regions : regions (memory_of new) ≡ regions (memory_of old)
  pub same_pages : held (memory_of new) ≡ held (memory_of old)
  pub budget : budget_of new ≡ budget_of old

-- a machine that has ended answers the same, and changes nothing
abbrev pub HasNotMoved : {M : Type 0} → Option End → StepAnswer → Machine M → Machine M → Env → Env → Type 0
HasNotMoved None told old new before after = Unit {0}
HasNotMoved (Some e) told old new before after = (told ≡ answer.Ended e) × (new ≡ old) × (after ≡ before)

-- ---- many steps

-- the machine stands for a state, and these bytes were written on the way to it
abbrev pub IsThere : {M : Type 0} → (M → ℕ → ℕ) → (M → ℕ → Bool) → Program → List ℕ → State → List ℕ → Machine M → Env → Env → Type 0
IsThere byte held p bytes state more new before after = IsAt byte held p new after more state × (after.output.items ≡ before.output.items ++ bytes)

-- this was counted, and the run has not ended
abbrev pub GoesOn : {M : Type 0} → ℕ → Machine M → Machine M → Type 0
GoesOn cost old new = (new.count ≡ old.count + cost) × (new.end ≡ None)

-- the run ended by the instruction of this row, which stands at this state: the whole run from where the machine stood before
pub record HasFinished {M : Type 0} (p : Program) (s : State) (bytes : List ℕ) (cost : ℕ) (state : State) (row : Row) (e : End) (old new : Machine M) : Type 0 where
  pub finish : runs.Finish
  pub ends : runs.end_of finish ≡ Some e
  pub runs : runs.Runs p (left_of old) s (record { output = bytes; count = cost + row.cost; finish = finish; state = state })
  pub counted : count_of new ≡ count_of old + (cost + row.cost)
  pub ended : end_of new ≡ Some e

-- why the machine stands at a state behind some steps, whose next row is this
abbrev pub Stops : {M : Type 0} → (M → ℕ → ℕ) → (M → ℕ → Bool) → ℕ → Program → State → List ℕ → ℕ → State → Row → List ℕ → StepAnswer → Machine M → Machine M → Env → Env → Type 0
Stops byte held limit p s bytes cost state row more answer.Stepped old new before after = IsThere byte held p bytes state more new before after × (limit ≤ cost) × GoesOn cost old new
Stops byte held limit p s bytes cost state row more (answer.Ended e) old new before after =
    IsThere byte held p bytes state more new before after × HasFinished p s bytes cost state row e old new × AreHeld (held (memory_of new)) row.sought
Stops byte held limit p s bytes cost state row more (answer.WantPage page) old new before after =
    IsThere byte held p bytes state more new before after × IsLowestAbsent (held (memory_of new)) (needed row) page × GoesOn cost old new
Stops byte held limit p s bytes cost state row more answer.WantInput old new before after =
    IsThere byte held p bytes state more new before after × (row.asks ≡ true) × (after.input ≡ []) × (after.ended ≡ false) × GoesOn cost old new
Stops byte held limit p s bytes cost state row more answer.Stuck old new before after = HasNoMeaning row.next
Stops byte held limit p s bytes cost state row more answer.NoMemory old new before after = IsThere byte held p bytes state more new before after × GoesOn cost old new

-- steps were taken that go on, within what was left, all of whose pages were there, and then came this answer
pub record HasRun {M : Type 0} (byte : M → ℕ → ℕ) (held : M → ℕ → Bool) (p : Program) (limit : ℕ) (told : StepAnswer) (old new : Machine M) (before after : Env) (more : List ℕ) (s : State) : Type 0 where
  pub bytes : List ℕ
  pub cost : ℕ
  pub state : State
  pub steps : StepsEach (HasPages (held (memory_of old))) p s bytes cost state
  pub afforded : cost ≤ left_of old
  pub same_end : after.ended ≡ before.ended
  pub stops : Stops byte held limit p s bytes cost state (step p (left_of old - cost) state) more told old new before after

-- ---- one step

-- the instruction of this row was done: the machine stands for the state that follows, output and count have grown as the row says, and all its pages were there
pub record HasStepped {M : Type 0} (byte : M → ℕ → ℕ) (held : M → ℕ → Bool) (p : Program) (row : Row) (old new : Machine M) (before after : Env) (more : List ℕ) : Type 0 where
  pub output : List ℕ
  pub call : Option Calling
  pub state : State
  pub next : row.next ≡ Goes output call state
  pub there : IsThere byte held p output state more new before after
  pub present : AreHeld (held (memory_of old)) (needed row)
  pub goes_on : GoesOn row.cost old new

-- what an answer says of a machine that has not ended, at the row of its next instruction
abbrev pub Takes : {M : Type 0} → (M → ℕ → ℕ) → (M → ℕ → Bool) → Program → State → Row → List ℕ → StepAnswer → Machine M → Machine M → Env → Env → Type 0
Takes byte held p s row more answer.Stepped old new before after = HasStepped byte held p row old new before after more
Takes byte held p s row more told old new before after = Stops byte held 1 p s [] 0 s row more told old new before after
