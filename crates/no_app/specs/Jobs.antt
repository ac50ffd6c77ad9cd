-- What a job says of its run.
use Rattle.std.specs.Prelude.{◌≡◌, ℕ, ◌+◌, ◌*◌, ◌-◌, ◌<◌, ◌≤◌, Bool, true, false, not, ◌&&◌, if◌then◌else◌, List, [], ◌++◌, Option, Some, None, IfSome}
use Rattle.no_ports.specs.Meanings.{Adds, AddsPrefix}
use Rattle.no_lib.specs.declared.env.Env.{Env}
use Rattle.no_machine.specs.Counted.{Counted}
use Rattle.no_machine.specs.Turning.{NeverStuck}
use Rattle.no_ir.specs.declared.function.Role.TheVariants.{Source}
use Rattle.no_progress.specs.Proper.{Each}
use Rattle.no_semantics.specs.First.{program_of}
use Rattle.no_semantics.specs.Starts.{main_from, start_of}
use Rattle.no_semantics.specs.States.{HasNoMarks, State}
use Rattle.no_semantics.specs.Accepted.{Accepted}
use Rattle.no_semantics.specs.Lists.{is_empty}
use Rattle.no_semantics.specs.Runs.{Ran, IsRun}
use Rattle.no_app.specs.declared.report.Report.{Report}
use Rattle.no_app.specs.declared.job.Fed.{Fed}
use Rattle.no_app.specs.declared.job.Fed.TheVariants as fed
use Rattle.no_app.specs.declared.job.JobEnd.{JobEnd}
use Rattle.no_app.specs.declared.job.JobEnd.TheVariants as job

-- ---- inputs and runs

-- each number is below 256
abbrev pub AreBytes : List ℕ → Type 0
AreBytes xs = Each (λ (b : ℕ). b < 256) xs

-- what a source tells of what it has left are bytes
abbrev pub TellsBytes : Option (List ℕ) → Type 0
TellsBytes left = IfSome left AreBytes

-- a fact of some input, which is the one that the source has left, where that is told
pub record OnInput (left : Option (List ℕ)) (P : List ℕ → Type 0) : Type 0 where
  pub given : List ℕ
  pub are_bytes : AreBytes given
  pub is : IfSome left (λ l. given ≡ l)
  pub so : P given

-- a fact of the run of a program on an input within a budget, which there is
pub record OnRun (a : Accepted) (given : List ℕ) (budget : ℕ) (P : Ran → Type 0) : Type 0 where
  pub ran : Ran
  pub runs : IsRun a given budget ran
  pub so : P ran

-- A source module that runs: it has a main, no instruction of it is free, and on each input it has a run within each budget, and never gets stuck.
pub record IsRunnable (a : Accepted) : Type 0 where
  pub role : a.role ≡ Source
  pub main : (k : ℕ) × (main_from 0 a.«module».functions ≡ Some k)
  pub marks : HasNoMarks a.«module»
  pub runs : (given : List ℕ) → AreBytes given → (budget : ℕ) → (ran : Ran) × IsRun a given budget ran
  pub never : (given : List ℕ) → AreBytes given → (s : State) → start_of a given ≡ Some s → NeverStuck (program_of a) s

-- a source goes on in its order: where it tells what is left, some first bytes of that may be gone
abbrev pub GoesOn : Option (List ℕ) → Option (List ℕ) → Type 0
GoesOn old new = IfSome old (λ l. (taken : List ℕ) × (rest : List ℕ) × (l ≡ taken ++ rest) × (new ≡ Some rest))

-- ---- how a job ends

-- the report of a run on the device alone
abbrev pub report_alone : ℕ → Report
report_alone count = record {
  offloads = 0;
  finished = 0;
  lost = 0;
  abandoned = 0;
  declined = 0;
  pages = 0;
  dirty = 0;
  remote = 0;
  local = count;
  breach = None;
}

-- the job's end is the run's, and all of its output was written; otherwise a prefix of it
abbrev pub IsRunOf : JobEnd → Ran → Option (List ℕ) → Option (List ℕ) → Type 0
IsRunOf (job.Ended e report) ran old new = (e ≡ ran.end) × (report ≡ report_alone ran.count) × Adds old new ran.output
IsRunOf job.ReadFault ran old new = AddsPrefix old new ran.output
IsRunOf job.WriteFault ran old new = AddsPrefix old new ran.output
IsRunOf job.NoMemory ran old new = AddsPrefix old new ran.output

-- a fact that holds where the program ended
abbrev pub WhereEnded : JobEnd → Type 0 → Type 0
WhereEnded (job.Ended e report) P = P
WhereEnded job.ReadFault P = Unit {0}
WhereEnded job.WriteFault P = Unit {0}
WhereEnded job.NoMemory P = Unit {0}

-- the counter's source number rises by the run's count, or by no more where the job stopped before; its part number stays
abbrev pub Counts : JobEnd → ℕ → Counted → Counted → Type 0
Counts (job.Ended e report) count old new = new ≡ record { source = old.source + count; part = old.part }
Counts job.ReadFault count old new = (new.part ≡ old.part) × (old.source ≤ new.source) × (new.source ≤ old.source + count)
Counts job.WriteFault count old new = (new.part ≡ old.part) × (old.source ≤ new.source) × (new.source ≤ old.source + count)
Counts job.NoMemory count old new = (new.part ≡ old.part) × (old.source ≤ new.source) × (new.source ≤ old.source + count)

-- what a job says of the run of its program
pub record RanSo (end : JobEnd) (old new : Option (List ℕ)) (counted counted' : Counted) (ran : Ran) : Type 0 where
  pub is : IsRunOf end ran old new
  pub counts : Counts end ran.count counted counted'

-- what a job says that runs a program by an engine: that of its run, and where that ended, what the engine says of an ended run
pub record SlicedSo (over : Type 0) (end : JobEnd) (old new : Option (List ℕ)) (counted counted' : Counted) (ran : Ran) : Type 0 where
  pub so : RanSo end old new counted counted' ran
  pub ended : WhereEnded end over

-- ---- a job between two slices

-- whether the next byte of the input is not there, though there may be one
abbrev pub is_open : Env → Bool
is_open env = is_empty env.input && not env.ended

-- what is left to do of a budget of which so much is counted: each slice and each take from the source does some of it
abbrev pub work_left : ℕ → ℕ → Env → ℕ
work_left budget count env = 2 * (budget - count) + (if is_open env then 1 else 0)

-- some first bytes of what the source has left came behind the input; or nothing comes any more
pub record IsFed (left left' : Option (List ℕ)) (before after : Env) : Type 0 where
  pub bytes : List ℕ
  pub are_bytes : AreBytes bytes
  pub input : after.input ≡ before.input ++ bytes
  pub output : after.output.items ≡ before.output.items
  pub closed : is_open after ≡ false
  pub moved : IfSome left (λ l. (rest : List ℕ) × (l ≡ bytes ++ rest) × (left' ≡ Some rest) × (after.ended ≡ true → rest ≡ []))

-- the same by what the source answered: after a fault it has what it had
abbrev pub Feeds : Fed → Option (List ℕ) → Option (List ℕ) → Env → Env → Type 0
Feeds fed.Done left left' before after = IsFed left left' before after
Feeds fed.Failed left left' before after = GoesOn left left'
Feeds fed.NoMemory left left' before after = GoesOn left left'
