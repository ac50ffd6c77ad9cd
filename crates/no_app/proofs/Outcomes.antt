-- Outcomes of a run, of a text and of a file.
use Rattle.std.proofs.Common.{◌≡◌, ℕ, ◌<◌, List, [], length, take, refl, sym, ap, subst, ◌∙◌, Option, Some, None, Result, Ok, Err, arith, inl, inr, true, false, lit<}
use Rattle.std.specs.Prelude.{IfSome, nat_le}
use Rattle.std.proofs.lemmas.List.{take_all, length-take-le}
use Rattle.std.proofs.lemmas.Bool.{cases_Bool, leb-true, leb-false}
use Rattle.no_ports.specs.Meanings.{Rose, Adds}
use Rattle.no_ports.proofs.Adding.{adds_nothing}
use Rattle.no_ir.specs.declared.ending.End.{End}
use Rattle.no_ir.specs.declared.ending.End.TheVariants as end
use Rattle.no_app.specs.declared.outcome.ModuleFault.{ModuleFault}
use Rattle.no_semantics.specs.Accepted.{Accepted}
use Rattle.no_semantics.specs.Runs.{Ran}
use Rattle.no_app.specs.Programs.{Means, MeansTokens, Loads, text_limit}
use Rattle.no_app.specs.declared.loading.Refused.{Refused}
use Rattle.no_app.specs.declared.loading.Refused.TheVariants as refused
use Rattle.no_lex.specs.declared.fault.LexFault.{LexFault}
use Rattle.no_lex.specs.declared.token.Token.{Token}
use Rattle.no_lex.specs.Tokens.{Lexes}
use Rattle.no_app.specs.Words.{Asked}
use Rattle.no_app.specs.Jobs.{AreBytes, GoesOn, OnInput, OnRun, RanSo, TellsBytes}
use Rattle.no_app.specs.Outcomes.{Flow, Around, Idle, RanPart, RunsAs, RunsText, RunsPart, RunsTo, WritesText, OnTold, IsRefusal, Says, WritesPart, outcome_of, outcome_of_job, outcome_refused}
use Rattle.no_app.specs.declared.job.JobEnd.{JobEnd}
use Rattle.no_app.specs.declared.job.JobEnd.TheVariants as job
use Rattle.no_app.specs.declared.outcome.Outcome.{Outcome}
use Rattle.no_app.specs.declared.outcome.Outcome.TheVariants as outcome
use Rattle.no_app.specs.declared.report.Report.{Report}
use Rattle.no_app.proofs.Jobs.{adds_all, any_input, input_more}
use Rattle.no_app.proofs.Meanings.{means_accepted}
use Rattle.no_app.proofs.Runnable.{runnable}

-- ---- inputs

-- a source that nothing was taken from
pub goes_on_same : (left : Option (List ℕ)) → GoesOn left left
goes_on_same None = tt
goes_on_same (Some l) = ([], l, refl, refl)

-- ---- a run of a text

-- a job that ended wrote and counted a part of its run
job_part : (e : JobEnd) (f : Flow) (ran : Ran) → RanSo e f.held f.held' f.counted f.counted' ran → RanPart f ran
job_part (job.Ended e report) f ran so =
    record { wrote = adds_all _ _ _ so.is.2; part = rw (so.counts) refl; rises = rw (so.counts) (omega arith); within = rw (so.counts) (omega arith) }
job_part job.ReadFault f ran so = record { wrote = so.is; part = so.counts.0; rises = so.counts.1; within = so.counts.2 }
job_part job.WriteFault f ran so = record { wrote = so.is; part = so.counts.0; rises = so.counts.1; within = so.counts.2 }
job_part job.NoMemory f ran so = record { wrote = so.is; part = so.counts.0; rises = so.counts.1; within = so.counts.2 }

-- what a job says of its run
abbrev pub JobRan : JobEnd → Flow → List ℕ → ℕ → Accepted → Type 0
JobRan e f given steps p = OnRun p given steps (RanSo e f.held f.held' f.counted f.counted')

ended : (e : End) (report : Report) (f : Flow) (given : List ℕ) (steps : ℕ) (text : List ℕ) (p : Accepted) → Means text (Ok p) → JobRan (job.Ended e report) f given steps p
    → RunsAs (outcome_of e) f given steps text
ended e report f given steps text p means on = (
  p,
  means,
  record { ran = on.ran; runs = on.runs; so = record { ended = ap outcome_of on.so.is.0; wrote = on.so.is.2; counts = on.so.counts } },
)

-- the outcome of a job is that of its run
pub job_ran : (e : JobEnd) (f : Flow) (given : List ℕ) (steps : ℕ) (text : List ℕ) (p : Accepted) → Means text (Ok p) → JobRan e f given steps p
    → (e ≡ job.ReadFault → Rose f.ins f.ins') → (e ≡ job.WriteFault → Rose f.outs f.outs') → RunsText (outcome_of_job e) f given steps text
job_ran (job.Ended (end.Exited c) report) f given steps text p means on read fault = ended (end.Exited c) report f given steps text p means on
job_ran (job.Ended (end.Trapped t) report) f given steps text p means on read fault = ended (end.Trapped t) report f given steps text p means on
job_ran (job.Ended end.Unfinished report) f given steps text p means on read fault = ended end.Unfinished report f given steps text p means on
job_ran job.ReadFault f given steps text p means on read fault = read refl
job_ran job.WriteFault f given steps text p means on read fault = fault refl
job_ran job.NoMemory f given steps text p means on read fault = tt

-- a job is no refusal
pub no_refusal : (e : JobEnd) → IsRefusal (outcome_of_job e) → ⊥
no_refusal (job.Ended (end.Exited c) report) refusal = refusal
no_refusal (job.Ended (end.Trapped t) report) refusal = refusal
no_refusal (job.Ended end.Unfinished report) refusal = refusal
no_refusal job.ReadFault refusal = refusal
no_refusal job.WriteFault refusal = refusal
no_refusal job.NoMemory refusal = refusal

-- ---- whatever comes of a text, a part of its run was written

idle_so : (f : Flow) (ran : Ran) → Idle f → RanPart f ran
idle_so f ran idle = record {
  wrote = (0, omega arith, subst (λ (held : Option (List ℕ)). Adds f.held held []) (sym idle.wrote) (adds_nothing f.held));
  part = rw (idle.counts) refl;
  rises = rw (idle.counts) (omega arith);
  within = rw (idle.counts) (omega arith);
}

-- nothing is a part
pub idle_part : (f : Flow) (given : List ℕ) (steps : ℕ) (text : List ℕ) → AreBytes given → Idle f → WritesText f given steps text
idle_part f given steps text are idle (Err fault) means = idle
idle_part f given steps text are idle (Ok p) means =
    let is = means_accepted text p means in
    let run = (runnable is.0 p is.1).runs given are steps in
    record { ran = run.0; runs = run.1; so = idle_so f run.0 idle }

-- what was loaded is all that the text means
pub ran_part : (e : JobEnd) (f : Flow) (given : List ℕ) (steps : ℕ) (text : List ℕ) (p : Accepted) → ((found : Result Accepted ModuleFault) → Means text found → Ok p ≡ found)
    → JobRan e f given steps p → WritesText f given steps text
ran_part e f given steps text p only on found means =
    let part : OnRun p given steps (RanPart f) = record { ran = on.ran; runs = on.runs; so = job_part e f on.ran on.so } in
    subst (λ (x : Result Accepted ModuleFault). RunsPart f given steps x) (only found means) part

-- ---- a file's first bytes, one more than the longest text, mean what the file means

long_cut : (text bytes : List ℕ) → text_limit < length text → text_limit < length bytes → (found : Result Accepted ModuleFault) → Means text found → Means bytes found
long_cut text bytes long longer found m = by m.lexed m.lexes m.means
  where
    by : (lexed : Result (List Token) LexFault) → Lexes text_limit text lexed → MeansTokens text lexed found → Means bytes found
    by (Ok tokens) lexes means = absurd (omega (arith, lexes.0, long))
    by (Err fault) (inl lexes) means = record { lexed = Err fault; lexes = inl (longer, lexes.1); means = means }
    by (Err fault) (inr lexes) means = absurd (omega (arith, lexes.0, long))

pub means_cut : (text bytes : List ℕ) → text ≡ take 16777217 bytes → (found : Result Accepted ModuleFault)
    → (Means text found → Means bytes found) × (Means bytes found → Means text found)
means_cut text bytes e found = elim (cases_Bool (nat_le (length bytes) 16777216)) [
  | inl fits ↦ (
    subst (λ (t : List ℕ). Means t found) (same fits),
    subst (λ (t : List ℕ). Means t found) (sym (same fits)),
  )
  | inr larger ↦ (long_cut text bytes (long larger) (longer larger) found, long_cut bytes text (longer larger) (long larger) found)
]
  where
    same : nat_le (length bytes) 16777216 ≡ true → text ≡ bytes
    same fits = let le = leb-true (length bytes) 16777216 fits in e ∙ take_all 16777217 bytes (omega (arith, le))

    longer : nat_le (length bytes) 16777216 ≡ false → text_limit < length bytes
    longer larger = leb-false (length bytes) 16777216 larger

    long : nat_le (length bytes) 16777216 ≡ false → text_limit < length text
    long larger = let more = leb-false (length bytes) 16777216 larger in rw (e, length-take-le 16777217 bytes (omega (arith, more))) (lit< tt)

-- ---- where a file tells what it holds, and the text is its first bytes

abbrev pub Holds : Option (List ℕ) → List ℕ → Type 0
Holds contents text = IfSome contents (λ bytes. text ≡ take 16777217 bytes)

-- a fact of what a text means is one of the whole file, or of the text where nothing is told
pub told_text : (P : List ℕ → Type 0) (contents : Option (List ℕ)) (text : List ℕ) → Holds contents text
    → ((bytes : List ℕ) → text ≡ take 16777217 bytes → P text → P bytes) → P text → OnTold contents P
told_text P None text holds whole p = (text, tt, p)
told_text P (Some bytes) text holds whole p = (bytes, refl, whole bytes holds p)

-- a text that gives no program has written nothing
pub refused_ran : (r : Refused) (f : Flow) (left : Option (List ℕ)) (steps : ℕ) (text : List ℕ) → TellsBytes left → Loads (Err r) (Means text) → Idle f
    → OnInput left (λ given. RunsText (outcome_refused r) f given steps text)
refused_ran (refused.Bad fault) f left steps text tells loads idle = any_input left (λ given. RunsText (outcome.BadModule fault) f given steps text) tells (λ given are. (loads, idle))
refused_ran refused.NoMemory f left steps text tells loads idle = any_input left (λ given. RunsText outcome.NoMemory f given steps text) tells (λ given are. tt)

pub refused_part : (f : Flow) (left : Option (List ℕ)) (steps : ℕ) (text : List ℕ) → TellsBytes left → Idle f → OnInput left (λ given. WritesText f given steps text)
refused_part f left steps text tells idle = any_input left (λ given. WritesText f given steps text) tells (λ given are. idle_part f given steps text are idle)

-- ---- the outcome of a text is that of its file

run_whole : (o : Outcome) (f : Flow) (left : Option (List ℕ)) (steps : ℕ) (text bytes : List ℕ) → text ≡ take 16777217 bytes → OnInput left (λ given. RunsAs o f given steps text)
    → OnInput left (λ given. RunsAs o f given steps bytes)
run_whole o f left steps text bytes e on =
    input_more (λ given. RunsAs o f given steps text) (λ given. RunsAs o f given steps bytes) left (λ given are x. (x.0, (means_cut text bytes e (Ok x.0)).0 x.1, x.2)) on

runs_to : (o : Outcome) (a : Around) (asked : Asked) (text : List ℕ) → a.job ≡ Some asked → Holds (a.contents asked.file) text
    → OnInput a.input (λ given. RunsAs o a.flow given asked.steps text) → RunsTo o a
runs_to o a asked text job holds r =
    rw job (told_text (λ t. OnInput a.input (λ given. RunsAs o a.flow given asked.steps t)) (a.contents asked.file) text holds (run_whole o a.flow a.input asked.steps text) r)

pub says_text : (o : Outcome) (a : Around) (asked : Asked) (text : List ℕ) → a.job ≡ Some asked → Holds (a.contents asked.file) text
    → OnInput a.input (λ given. RunsText o a.flow given asked.steps text) → Says o a
says_text (outcome.Exited c) a asked text job holds r = runs_to (outcome.Exited c) a asked text job holds r
says_text (outcome.Trapped t) a asked text job holds r = runs_to (outcome.Trapped t) a asked text job holds r
says_text outcome.Unfinished a asked text job holds r = runs_to outcome.Unfinished a asked text job holds r
says_text outcome.NoMemory a asked text job holds r = tt
says_text outcome.Usage a asked text job holds r = absurd r.so
says_text (outcome.FileFault name) a asked text job holds r = absurd r.so
says_text (outcome.BadModule fault) a asked text job holds r =
    (rw job (told_text (λ t. Means t (Err fault)) (a.contents asked.file) text holds (λ bytes e. (means_cut text bytes e (Err fault)).0) r.so.0), r.so.1)
says_text outcome.ReadFault a asked text job holds r = rw job r.so
says_text outcome.WriteFault a asked text job holds r = rw job r.so

-- ---- whatever the outcome, a part of the run was written

part_whole : (f : Flow) (left : Option (List ℕ)) (steps : ℕ) (text bytes : List ℕ) → text ≡ take 16777217 bytes → OnInput left (λ given. WritesText f given steps text)
    → OnInput left (λ given. WritesText f given steps bytes)
part_whole f left steps text bytes e on =
    input_more (λ given. WritesText f given steps text) (λ given. WritesText f given steps bytes) left (λ given are x found means. x found ((means_cut text bytes e found).1 means)) on

pub part_text : (a : Around) (asked : Asked) (job : Option Asked) (text : List ℕ) → job ≡ Some asked → Holds (a.contents asked.file) text
    → OnInput a.input (λ given. WritesText a.flow given asked.steps text) → WritesPart a job
part_text a asked job text e holds r =
    rw e (told_text (λ t. OnInput a.input (λ given. WritesText a.flow given asked.steps t)) (a.contents asked.file) text holds (part_whole a.flow a.input asked.steps text) r)

-- some bytes, which are those that are told
any_told : (P : List ℕ → Type 0) (told : Option (List ℕ)) → ((bytes : List ℕ) → P bytes) → OnTold told P
any_told P None all = ([], tt, all [])
any_told P (Some bytes) all = (bytes, refl, all bytes)

-- nothing is a part of every run
pub idle_writes : (a : Around) (job : Option Asked) → TellsBytes a.input → Idle a.flow → WritesPart a job
idle_writes a None tells idle = idle
idle_writes a (Some asked) tells idle =
    any_told (λ t. OnInput a.input (λ given. WritesText a.flow given asked.steps t)) (a.contents asked.file) (λ text. refused_part a.flow a.input asked.steps text tells idle)
