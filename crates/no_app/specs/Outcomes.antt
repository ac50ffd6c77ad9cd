-- Outcomes: the status and the last line of each, and when each comes.
use Rattle.std.specs.Prelude.{◌≡◌, ℕ, ◌+◌, ◌≤◌, List, ◌++◌, Option, Some, None, Result, Ok, Err, codes, decimal, IfSome, ◌⊎◌}
use Rattle.no_ports.specs.Meanings.{Rose, Adds, AddsPrefix}
use Rattle.no_ir.specs.declared.ending.End.{End}
use Rattle.no_ir.specs.declared.ending.End.TheVariants as end
use Rattle.no_ir.specs.Ending.{trap_number, trap_name}
use Rattle.no_layout.specs.declared.fault.LayoutKind.{LayoutKind}
use Rattle.no_layout.specs.declared.fault.LayoutKind.TheVariants as layout
use Rattle.no_machine.specs.Counted.{Counted}
use Rattle.no_semantics.specs.Accepted.{Accepted}
use Rattle.no_semantics.specs.Runs.{Ran}
use Rattle.no_app.specs.Jobs.{OnInput, OnRun}
use Rattle.no_app.specs.Programs.{Means}
use Rattle.no_app.specs.Words.{Asked}
use Rattle.no_app.specs.declared.job.JobEnd.{JobEnd}
use Rattle.no_app.specs.declared.job.JobEnd.TheVariants as job
use Rattle.no_app.specs.declared.loading.Refused.{Refused}
use Rattle.no_app.specs.declared.loading.Refused.TheVariants as refused
use Rattle.no_app.specs.declared.outcome.Outcome.{Outcome}
use Rattle.no_app.specs.declared.outcome.Outcome.TheVariants as outcome
use Rattle.no_app.specs.declared.outcome.ModuleFault.{ModuleFault}
use Rattle.no_app.specs.declared.outcome.ModuleFault.TheVariants as modules
use Rattle.no_lex.specs.Faults.{kind_number}
use Rattle.no_read.specs.Faults.{fault_number}
use Rattle.no_read.specs.declared.fault.ReadFault.{ReadFault}
use Rattle.no_read.specs.declared.fault.ReadFault.TheVariants as reads
use Rattle.no_verify.specs.Kinds.{number_of}
use Rattle.no_verify.specs.declared.fault.VerifyFault.{VerifyFault}

-- ---- statuses and lines

-- the exit status of an outcome
abbrev pub status_of : Outcome → ℕ
status_of (outcome.Exited c) = c
status_of (outcome.Trapped t) = 100 + trap_number t
status_of outcome.Unfinished = 110
status_of outcome.NoMemory = 119
status_of outcome.Usage = 120
status_of (outcome.FileFault name) = 121
status_of (outcome.BadModule fault) = 122
status_of outcome.ReadFault = 127
status_of outcome.WriteFault = 118

-- the kind of a fault, and its place in bytes
abbrev pub place_words : ℕ → ℕ → List ℕ
place_words kind at = decimal kind ++ codes " at " ++ decimal at

-- the place of a reader's fault in the text
abbrev pub place_of : ReadFault → ℕ
place_of (reads.Syntax at) = at
place_of (reads.LeftOut at word) = at
place_of (reads.Number at) = at
place_of (reads.Circle at) = at

-- the number of a kind of fault of a layout string
abbrev pub layout_number : LayoutKind → ℕ
layout_number layout.NoOrder = 1
layout_number layout.BadWidth = 2
layout_number layout.BadSpec = 3

-- the kind of a verifier's fault, and the numbers of function, block and instruction
abbrev pub verify_words : VerifyFault → List ℕ
verify_words fault =
    codes "verify " ++ decimal (number_of fault.kind) ++ codes " function " ++ decimal fault.function ++ codes " block " ++ decimal fault.block
    ++ codes " place " ++ decimal fault.place

-- who found a module's fault, its kind, and its place
abbrev pub module_words : ModuleFault → List ℕ
module_words (modules.Lex fault) = codes "lex " ++ place_words (kind_number fault.kind) fault.at
module_words (modules.Read fault) = codes "read " ++ place_words (fault_number fault) (place_of fault)
module_words (modules.Layout fault) = codes "layout " ++ place_words (layout_number fault.kind) fault.at
module_words (modules.Verify fault) = verify_words fault

-- what stands between `nativeoff: ` and the line feed
abbrev pub words_of : Outcome → List ℕ
words_of (outcome.Exited c) = codes "exited " ++ decimal c
words_of (outcome.Trapped t) = codes "trapped " ++ decimal (trap_number t) ++ codes " " ++ trap_name t
words_of outcome.Unfinished = codes "unfinished"
words_of outcome.NoMemory = codes "no memory"
words_of outcome.Usage = codes "the words are not a command's words"
words_of (outcome.FileFault name) = codes "file fault " ++ name
words_of (outcome.BadModule fault) = codes "bad module " ++ module_words fault
words_of outcome.ReadFault = codes "read fault"
words_of outcome.WriteFault = codes "write fault"

-- the last line of an outcome
abbrev pub line_of : Outcome → List ℕ
line_of o = codes "nativeoff: " ++ words_of o ++ codes "\n"

-- the outcome of a run's end
abbrev pub outcome_of : End → Outcome
outcome_of (end.Exited c) = outcome.Exited c
outcome_of (end.Trapped t) = outcome.Trapped t
outcome_of end.Unfinished = outcome.Unfinished

-- the outcome of a job
abbrev pub outcome_of_job : JobEnd → Outcome
outcome_of_job (job.Ended e report) = outcome_of e
outcome_of_job job.ReadFault = outcome.ReadFault
outcome_of_job job.WriteFault = outcome.WriteFault
outcome_of_job job.NoMemory = outcome.NoMemory

-- the outcome of a text that gives no program
abbrev pub outcome_refused : Refused → Outcome
outcome_refused (refused.Bad fault) = outcome.BadModule fault
outcome_refused refused.NoMemory = outcome.NoMemory

-- ---- when each outcome comes

-- before and after a call: what the output holds, what is counted, and the counts of faults of input and output
pub record Flow : Type 0 where
  pub held : Option (List ℕ)
  pub held' : Option (List ℕ)
  pub counted : Counted
  pub counted' : Counted
  pub ins : ℕ
  pub ins' : ℕ
  pub outs : ℕ
  pub outs' : ℕ

-- the outside world around a call: the job that the words ask for, what files hold, what the input has left,
-- the output and the counter, and each file's count of faults before and after
pub record Around : Type 0 where
  pub job : Option Asked
  pub contents : List ℕ → Option (List ℕ)
  pub input : Option (List ℕ)
  pub flow : Flow
  pub faults : List ℕ → ℕ
  pub faults' : List ℕ → ℕ

-- a fact of the job, which there has to be
abbrev pub OnJob : Option Asked → (Asked → Type 0) → Type 0
OnJob None P = ⊥
OnJob (Some asked) P = P asked

-- a fact of some bytes, which are those that are told, where they are
abbrev pub OnTold : Option (List ℕ) → (List ℕ → Type 0) → Type 0
OnTold told P = (bytes : List ℕ) × IfSome told (λ t. bytes ≡ t) × P bytes

-- a fact of the program that a text means, which it has to mean
abbrev pub OnProgram : List ℕ → (Accepted → Type 0) → Type 0
OnProgram text P = (p : Accepted) × Means text (Ok p) × P p

-- the run ended so, its output was written, and its instructions were counted
pub record RanWhole (o : Outcome) (f : Flow) (ran : Ran) : Type 0 where
  pub ended : o ≡ outcome_of ran.end
  pub wrote : Adds f.held f.held' ran.output
  pub counts : f.counted' ≡ record { source = f.counted.source + ran.count; part = f.counted.part }

-- nothing was written and nothing counted
pub record Idle (f : Flow) : Type 0 where
  pub wrote : f.held' ≡ f.held
  pub counts : f.counted' ≡ f.counted

-- the program that a text means has a run on an input within a budget, and this is what came of it
abbrev pub RunsAs : Outcome → Flow → List ℕ → ℕ → List ℕ → Type 0
RunsAs o f input steps text = OnProgram text (λ p. OnRun p input steps (RanWhole o f))

-- the job's file has a text, which means a program, and the input some bytes; the run of the one on the other ended so
abbrev pub RunsTo : Outcome → Around → Type 0
RunsTo o a = OnJob a.job (λ asked. OnTold (a.contents asked.file) (λ text. OnInput a.input (λ given. RunsAs o a.flow given asked.steps text)))

-- what each outcome says; the cases exclude each other, so each comes exactly where it says, want of memory aside
abbrev pub Says : Outcome → Around → Type 0
Says (outcome.Exited c) a = RunsTo (outcome.Exited c) a
Says (outcome.Trapped t) a = RunsTo (outcome.Trapped t) a
Says outcome.Unfinished a = RunsTo outcome.Unfinished a
Says outcome.NoMemory a = Unit {0}
Says outcome.Usage a = a.job ≡ None
Says (outcome.FileFault name) a = OnJob a.job (λ asked. (name ≡ asked.file) × Rose (a.faults asked.file) (a.faults' asked.file)) × Idle a.flow
Says (outcome.BadModule fault) a = OnJob a.job (λ asked. OnTold (a.contents asked.file) (λ text. Means text (Err fault))) × Idle a.flow
Says outcome.ReadFault a = OnJob a.job (λ asked. Rose a.flow.ins a.flow.ins')
Says outcome.WriteFault a = OnJob a.job (λ asked. Rose a.flow.outs a.flow.outs')

-- a prefix of the run's output was written, and no more counted than the run counts
pub record RanPart (f : Flow) (ran : Ran) : Type 0 where
  pub wrote : AddsPrefix f.held f.held' ran.output
  pub part : f.counted'.part ≡ f.counted.part
  pub rises : f.counted.source ≤ f.counted'.source
  pub within : f.counted'.source ≤ f.counted.source + ran.count

-- of the program that a text means, if it means one; otherwise nothing was written and nothing counted
abbrev pub RunsPart : Flow → List ℕ → ℕ → Result Accepted ModuleFault → Type 0
RunsPart f input steps (Err fault) = Idle f
RunsPart f input steps (Ok a) = OnRun a input steps (RanPart f)

-- whatever a text means, a prefix of its program's run was written, or nothing without a program
abbrev pub WritesText : Flow → List ℕ → ℕ → List ℕ → Type 0
WritesText f input steps text = (found : Result Accepted ModuleFault) → Means text found → RunsPart f input steps found

-- whatever the outcome: without a job or a program nothing is written, and otherwise a prefix of the run's output
abbrev pub WritesPart : Around → Option Asked → Type 0
WritesPart a None = Idle a.flow
WritesPart a (Some asked) = OnTold (a.contents asked.file) (λ text. OnInput a.input (λ given. WritesText a.flow given asked.steps text))

-- ---- the same for a text that was read

-- what each outcome says of a text and a run of it
abbrev pub RunsText : Outcome → Flow → List ℕ → ℕ → List ℕ → Type 0
RunsText (outcome.Exited c) f input steps text = RunsAs (outcome.Exited c) f input steps text
RunsText (outcome.Trapped t) f input steps text = RunsAs (outcome.Trapped t) f input steps text
RunsText outcome.Unfinished f input steps text = RunsAs outcome.Unfinished f input steps text
RunsText outcome.NoMemory f input steps text = Unit {0}
RunsText outcome.Usage f input steps text = ⊥
RunsText (outcome.FileFault name) f input steps text = ⊥
RunsText (outcome.BadModule fault) f input steps text = Means text (Err fault) × Idle f
RunsText outcome.ReadFault f input steps text = Rose f.ins f.ins'
RunsText outcome.WriteFault f input steps text = Rose f.outs f.outs'

-- the outcomes that come before a run begins
abbrev pub IsRefusal : Outcome → Type 0
IsRefusal outcome.Usage = Unit {0}
IsRefusal (outcome.FileFault name) = Unit {0}
IsRefusal (outcome.BadModule fault) = Unit {0}
IsRefusal _ = ⊥

-- the outcome with the stream of the last line beside it, of which these are the counts of faults
abbrev pub Concludes : Outcome → Around → ℕ → ℕ → Type 0
Concludes outcome.WriteFault a errs errs' = Says outcome.WriteFault a ⊎ Rose errs errs'
Concludes o a errs errs' = Says o a

-- the line that the stream got: that of the outcome, whole; or, where the stream failed or memory was wanted, a prefix of the line
-- of an outcome that the call had reached
abbrev pub Tells : Outcome → Around → Option (List ℕ) → Option (List ℕ) → ℕ → ℕ → Type 0
Tells outcome.WriteFault a old new errs errs' =
    Adds old new (line_of outcome.WriteFault) ⊎ ((reached : Outcome) × Says reached a × Rose errs errs' × AddsPrefix old new (line_of reached))
Tells outcome.NoMemory a old new errs errs' = (reached : Outcome) × Says reached a × AddsPrefix old new (line_of reached)
Tells o a old new errs errs' = Adds old new (line_of o)

-- an outcome whose line was tried, and what became of it: the same with its whole line, a fault of the stream, or want of memory
abbrev pub Becomes : Outcome → Outcome → Option (List ℕ) → Option (List ℕ) → ℕ → ℕ → Type 0
Becomes o o' old new errs errs' =
    ((o' ≡ o) × Adds old new (line_of o))
    ⊎ ((o' ≡ outcome.WriteFault) × Rose errs errs' × AddsPrefix old new (line_of o))
    ⊎ ((o' ≡ outcome.NoMemory) × AddsPrefix old new (line_of o))
