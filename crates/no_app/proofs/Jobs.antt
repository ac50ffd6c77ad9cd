-- A job writes what the run writes, as far as it comes.
use Rattle.std.proofs.Common.{◌≡◌, ℕ, ◌+◌, ◌-◌, ◌*◌, ◌<◌, ◌≤◌, zero, suc, Bool, true, false, true≢false, List, [], ◌∷◌, ◌++◌, length, take, refl, sym, ap, subst, ◌∙◌, append_assoc, append-nil, length-append, add-zero, Option, Some, None, if◌then◌else◌, option_map, arith}
use Rattle.std.specs.Prelude.{IfSome, Vec, ◌&&◌, not}
use Rattle.std.specs.declared.alloc.Global.{Global}
use Rattle.std.proofs.lemmas.List.{take-append-le}
use Rattle.std.proofs.lemmas.Option.{same_Some}
use Rattle.std.proofs.Math.Seq.{take-append-add, take-length}
use Rattle.no_ports.specs.Meanings.{Rose, Adds, AddsPrefix}
use Rattle.no_ports.proofs.Adding.{adds_then, adds_nothing}
use Rattle.no_engine.specs.Parts.{HasWay, IsFresh}
use Rattle.no_engine.specs.Slices.{Came}
use Rattle.no_engine.specs.declared.engine.Slice.{Slice}
use Rattle.no_engine.specs.declared.engine.Slice.TheVariants as slice
use Rattle.no_ir.specs.declared.ending.End.{End}
use Rattle.no_ir.specs.declared.function.Role.{Role}
use Rattle.no_ir.specs.declared.function.Role.TheVariants.{Source}
use Rattle.no_lib.specs.declared.env.Env.{Env}
use Rattle.no_machine.specs.Counted.{Counted, counted}
use Rattle.no_semantics.specs.Accepted.{Accepted}
use Rattle.no_semantics.specs.First.{program_of}
use Rattle.no_semantics.specs.Lists.{is_empty}
use Rattle.no_semantics.specs.Runs as runs
use Rattle.no_semantics.specs.Runs.{Ran, IsRun, Runs, Whole, ran_by}
use Rattle.no_semantics.specs.Starts.{start_of}
use Rattle.no_semantics.specs.States.{State}
use Rattle.no_semantics.proofs.Running.{mapped, runs_split}
use Rattle.no_app.specs.Jobs.{AreBytes, TellsBytes, IsRunnable, IsFed, GoesOn, OnInput, OnRun, RanSo, SlicedSo, WhereEnded, is_open, report_alone, work_left}
use Rattle.no_app.specs.declared.job.JobEnd.{JobEnd}
use Rattle.no_app.specs.declared.job.JobEnd.TheVariants as job
use Rattle.no_app.specs.declared.report.Report.{Report}

-- what is read of a source so far, where it tells what it has left
abbrev pub HasRead : Option (List ℕ) → Option (List ℕ) → Bool → List ℕ → Type 0
HasRead left left' ended read = IfSome left (λ l. (rest : List ℕ) × (l ≡ read ++ rest) × (left' ≡ Some rest) × (ended ≡ true → rest ≡ []))

-- where an engine stands: by an environment, what comes behind its input, the whole input, and what was written before its output
abbrev pub Standing : Type 1
Standing = Env → List ℕ → List ℕ → List ℕ → Type 0

-- A job between two slices: some bytes of the input were read, some of the output was given, and whatever comes of the input the engine is on its way.
pub record So (on : Standing) (left left' before now : Option (List ℕ)) (env : Env) : Type 0 where
  pub read : List ℕ
  pub are_bytes : AreBytes read
  pub reads : HasRead left left' env.ended read
  pub flushed : List ℕ
  pub stands : (more : List ℕ) → AreBytes more → (env.ended ≡ true → more ≡ []) → on env more (read ++ more) flushed
  pub wrote : Adds before now flushed

-- where it stood says where it stands
abbrev pub Onward : Standing → Standing → Env → Env → Type 0
Onward on on' env env' = (more given flushed : List ℕ) → on env more given flushed → on' env' more given flushed

-- it stands as well in an environment with the same input to the end, and the same bytes written
abbrev pub Moves : Standing → Type 0
Moves on = (env env' : Env) (more more' given flushed flushed' : List ℕ) → on env more given flushed → env.input ++ more ≡ env'.input ++ more' → (env'.ended ≡ true → more' ≡ [])
    → flushed ++ env.output.items ≡ flushed' ++ env'.output.items → on env' more' given flushed'

-- ---- the beginning

has_read_none : (left : Option (List ℕ)) (ended : Bool) → ended ≡ false → HasRead left left ended []
has_read_none None ended open_end = tt
has_read_none (Some l) ended open_end = (l, refl, refl, λ e. absurd (true≢false (sym e ∙ open_end)))

pub so_start : {E : Type 0} (on : E → Standing) (counted limit : E → ℕ) (a : Accepted) (e : E) (left held : Option (List ℕ)) (env : Env) → IsRunnable a → IsFresh on counted limit a (limit e) e
    → env.input ≡ [] → env.output.items ≡ [] → env.ended ≡ false → So (on e) left left held held env
so_start on counted limit a e left held env runnable fresh no_input no_output open_end = record {
  read = [];
  are_bytes = tt;
  reads = has_read_none left env.ended open_end;
  flushed = [];
  stands = λ more are closed.
      let run = runnable.runs more are (limit e) in
      fresh.starts more
      (record { begin = run.1.begin; begins = run.1.begins; never = runnable.never more are run.1.begin run.1.begins; ran = run.0; run = run.1 })
      env more (sym (ap (λ (x : List ℕ). x ++ more) no_input)) closed no_output;
  wrote = adds_nothing held;
}

-- some input that the program can be run on is there
pub so_some : (on : Standing) (left left' before now : Option (List ℕ)) (env : Env) → So on left left' before now env → (more : List ℕ) × (given : List ℕ) × (flushed : List ℕ) × on env more given flushed
so_some on left left' before now env so = ([], so.read ++ [], so.flushed, so.stands [] tt (λ e. refl))

-- ---- it goes on

pub so_on : (on on' : Standing) (left left' before now : Option (List ℕ)) (env env' : Env) → So on left left' before now env → Onward on on' env env' → env'.ended ≡ env.ended → So on' left left' before now env'
so_on on on' left left' before now env env' so onward same_end = record {
  read = so.read;
  are_bytes = so.are_bytes;
  reads = subst (λ (e : Bool). HasRead left left' e so.read) (sym same_end) so.reads;
  flushed = so.flushed;
  stands = λ more are closed. onward more (so.read ++ more) so.flushed (so.stands more are (λ e. closed (same_end ∙ e)));
  wrote = so.wrote;
}

-- the output was given, and it is empty again
abbrev pub emptied : Env → Vec ℕ Global → Env
emptied env output = record { input = env.input; ended = env.ended; output = output }

pub so_flush : (on : Standing) (left left' before now after : Option (List ℕ)) (env : Env) (output : Vec ℕ Global) → Moves on → So on left left' before now env → output.items ≡ [] → Adds now after env.output.items
    → So on left left' before after (emptied env output)
so_flush on left left' before now after env output moves so none given = record {
  read = so.read;
  are_bytes = so.are_bytes;
  reads = so.reads;
  flushed = so.flushed ++ env.output.items;
  stands = λ more are closed.
      moves env (emptied env output) more more (so.read ++ more) so.flushed (so.flushed ++ env.output.items) (so.stands more are closed) refl closed
      (sym (ap (λ (x : List ℕ). (so.flushed ++ env.output.items) ++ x) none ∙ append-nil (so.flushed ++ env.output.items)));
  wrote = adds_then before now after so.flushed env.output.items so.wrote given;
}

has_read_more : (left left' left'' : Option (List ℕ)) (ended ended' : Bool) (read bytes : List ℕ) → HasRead left left' ended read
    → IfSome left' (λ l. (rest : List ℕ) × (l ≡ bytes ++ rest) × (left'' ≡ Some rest) × (ended' ≡ true → rest ≡ [])) → HasRead left left'' ended' (read ++ bytes)
has_read_more None left' left'' ended ended' read bytes reads moved = tt
has_read_more (Some l) left' left'' ended ended' read bytes reads moved =
    let m = subst (λ (o : Option (List ℕ)). IfSome o (λ l. (rest : List ℕ) × (l ≡ bytes ++ rest) × (left'' ≡ Some rest) × (ended' ≡ true → rest ≡ []))) reads.2 moved in
    (m.0, reads.1 ∙ ap (λ (x : List ℕ). read ++ x) m.1 ∙ sym (append_assoc read bytes m.0), m.2, m.3)

pub each_append : (xs ys : List ℕ) → AreBytes xs → AreBytes ys → AreBytes (xs ++ ys)
each_append [] ys p q = q
each_append (x ∷ xs) ys p q = (p.0, each_append xs ys p.1 q)

each_behind : (xs ys : List ℕ) → AreBytes (xs ++ ys) → AreBytes ys
each_behind [] ys p = p
each_behind (x ∷ xs) ys p = each_behind xs ys p.1

pub so_fed : (on : Standing) (left left' left'' before now : Option (List ℕ)) (env env' : Env) → Moves on → So on left left' before now env → env.ended ≡ false → IsFed left' left'' env env' → So on left left'' before now env'
so_fed on left left' left'' before now env env' moves so open_end fed = record {
  read = so.read ++ fed.bytes;
  are_bytes = each_append so.read fed.bytes so.are_bytes fed.are_bytes;
  reads = has_read_more left left' left'' env.ended env'.ended so.read fed.bytes so.reads fed.moved;
  flushed = so.flushed;
  stands = λ more are closed.
      subst (λ (given : List ℕ). on env' more given so.flushed) (sym (append_assoc so.read fed.bytes more))
      (moves env env' (fed.bytes ++ more) more (so.read ++ (fed.bytes ++ more)) so.flushed so.flushed
      (so.stands (fed.bytes ++ more) (each_append fed.bytes more fed.are_bytes are) (λ e. absurd (true≢false (sym e ∙ open_end))))
      (sym (ap (λ (x : List ℕ). x ++ more) fed.input ∙ append_assoc env.input fed.bytes more)) closed
      (ap (λ (x : List ℕ). so.flushed ++ x) (sym fed.output)));
  wrote = so.wrote;
}

-- ---- some input

pub on_input : (left left' : Option (List ℕ)) (ended : Bool) (read : List ℕ) (P : List ℕ → Type 0) → TellsBytes left → AreBytes read → HasRead left left' ended read
    → ((more : List ℕ) → AreBytes more → (ended ≡ true → more ≡ []) → P (read ++ more)) → OnInput left P
on_input None left' ended read P tells are reads holds =
    let all = subst AreBytes (sym (append-nil read)) are in
    record { given = read ++ []; are_bytes = all; is = tt; so = holds [] tt (λ e. refl) }
on_input (Some l) left' ended read P tells are reads holds =
    let all = subst AreBytes reads.1 tells in
    record { given = read ++ reads.0; are_bytes = all; is = sym reads.1; so = holds reads.0 (each_behind read reads.0 all) reads.3 }

-- where nothing is known yet
pub any_input : (left : Option (List ℕ)) (P : List ℕ → Type 0) → TellsBytes left → ((given : List ℕ) → AreBytes given → P given) → OnInput left P
any_input None P tells holds = record { given = []; are_bytes = tt; is = tt; so = holds [] tt }
any_input (Some l) P tells holds = record { given = l; are_bytes = tells; is = refl; so = holds l tells }

-- what follows from a fact of some input
pub input_more : (P Q : List ℕ → Type 0) (left : Option (List ℕ)) → ((given : List ℕ) → AreBytes given → P given → Q given) → OnInput left P → OnInput left Q
input_more P Q left more on = record { given = on.given; are_bytes = on.are_bytes; is = on.is; so = more on.given on.are_bytes on.so }

-- ---- what was done is a part of the run

-- these bytes and so much are the beginning of a run's output and count
pub record IsPart (bytes : List ℕ) (count : ℕ) (ran : Ran) : Type 0 where
  pub more : List ℕ
  pub output : ran.output ≡ bytes ++ more
  pub within : count ≤ ran.count

pub way_part : (a : Accepted) (budget count : ℕ) (given bytes : List ℕ) (ran : Ran) → HasWay a budget given bytes count → IsRun a given budget ran → IsPart bytes count ran
way_part a budget count given bytes ran way run =
    let begin_is : run.begin ≡ way.begin = same_Some run.begin way.begin (sym run.begins ∙ way.begins) in
    let split = runs_split (program_of a) budget way.begin way.state bytes count run.whole way.steps way.within
    (subst (λ (s : State). Runs (program_of a) budget s run.whole) begin_is run.runs) in
    let whole = mapped (ran_by run.whole.output run.whole.count) (runs.end_of run.whole.finish) ran run.is in
    let counted : ran.count ≡ count + split.0.count = ap (λ (r : Ran). r.count) (sym whole.2) ∙ ap (λ (w : Whole). w.count) split.2 in
    record {
      more = split.0.output;
      output = ap (λ (r : Ran). r.output) (sym whole.2) ∙ ap (λ (w : Whole). w.output) split.2;
      within = omega (arith, counted);
    }

-- a part of the run on an input, which there is
pub record IsPartOn (a : Accepted) (budget count : ℕ) (given bytes : List ℕ) : Type 0 where
  pub ran : Ran
  pub run : IsRun a given budget ran
  pub part : IsPart bytes count ran

-- whatever a slice came to, it leaves a part of the run done
pub came_part : {E : Type 0} (on : E → Standing) (over : E → List ℕ → Type 0) (a : Accepted) (count budget : ℕ) (told : Slice) (e : E) (env : Env) (more given flushed : List ℕ)
    → ((env : Env) (more given flushed : List ℕ) → on e env more given flushed → HasWay a budget given (flushed ++ env.output.items) count)
    → ((ran : Ran) × IsRun a given budget ran) → Came on over a count budget told e env more given flushed → IsPartOn a budget count given (flushed ++ env.output.items)
came_part on over a count budget slice.Stepped e env more given flushed way run came =
    record { ran = run.0; run = run.1; part = way_part a budget count given (flushed ++ env.output.items) run.0 (way env more given flushed came) run.1 }
came_part on over a count budget slice.WantInput e env more given flushed way run came =
    record { ran = run.0; run = run.1; part = way_part a budget count given (flushed ++ env.output.items) run.0 (way env more given flushed came) run.1 }
came_part on over a count budget slice.NoMemory e env more given flushed way run came =
    record { ran = run.0; run = run.1; part = way_part a budget count given (flushed ++ env.output.items) run.0 came run.1 }
came_part on over a count budget (slice.Ended end) e env more given flushed way run came = record {
  ran = ran_by (flushed ++ env.output.items) count end;
  run = came.0;
  part = record { more = []; output = sym (append-nil (flushed ++ env.output.items)); within = omega arith };
}

-- ---- what was written

prefix_of : (xs ys zs : List ℕ) (n : ℕ) → n ≤ length ys → take (length xs + n) (xs ++ (ys ++ zs)) ≡ xs ++ take n ys
prefix_of xs ys zs n h = take-append-add xs (ys ++ zs) n ∙ ap (λ (l : List ℕ). xs ++ l) (take-append-le n ys zs h)

adds_part : (before now after : Option (List ℕ)) (xs ys zs : List ℕ) → Adds before now xs → AddsPrefix now after ys → AddsPrefix before after ((xs ++ ys) ++ zs)
adds_part before now after xs ys zs wrote some = (
  length xs + some.0,
  rw (length-append, length-append) (omega (arith, some.1)),
  subst (λ (x : List ℕ). Adds before after x)
      (sym (ap (take (length xs + some.0)) (append_assoc xs ys zs) ∙ prefix_of xs ys zs some.0 some.1))
      (adds_then before now after xs (take some.0 ys) wrote some.2),
)

-- what is given whole is given as far as it goes
pub adds_all : (old new : Option (List ℕ)) (bytes : List ℕ) → Adds old new bytes → AddsPrefix old new bytes
adds_all old new bytes all = (length bytes, omega arith, subst (λ (b : List ℕ). Adds old new b) (sym (take-length bytes)) all)

-- nothing is given
adds_none : (held : Option (List ℕ)) (bytes : List ℕ) → AddsPrefix held held bytes
adds_none held bytes = (0, omega arith, adds_nothing held)

-- ---- a job that stopped before the run's end

abbrev pub IsShort : JobEnd → Type 0
IsShort (job.Ended e report) = ⊥
IsShort job.ReadFault = Unit {0}
IsShort job.WriteFault = Unit {0}
IsShort job.NoMemory = Unit {0}

short_so : (end : JobEnd) (old new : Option (List ℕ)) (s s' : Counted) (ran : Ran) → IsShort end → AddsPrefix old new ran.output → s'.part ≡ s.part → s.source ≤ s'.source → s'.source ≤ s.source + ran.count
    → RanSo end old new s s' ran
short_so (job.Ended e report) old new s s' ran short wrote part rises most = absurd short
short_so job.ReadFault old new s s' ran short wrote part rises most = record { is = wrote; counts = (part, rises, most) }
short_so job.WriteFault old new s s' ran short wrote part rises most = record { is = wrote; counts = (part, rises, most) }
short_so job.NoMemory old new s s' ran short wrote part rises most = record { is = wrote; counts = (part, rises, most) }

short_over : (end : JobEnd) (P : Type 0) → IsShort end → WhereEnded end P
short_over (job.Ended e report) P short = absurd short
short_over job.ReadFault P short = tt
short_over job.WriteFault P short = tt
short_over job.NoMemory P short = tt

-- a job whose engine counted so much
abbrev pub HasCounted : Counted → Counted → ℕ → Type 0
HasCounted s s' count = s' ≡ record { source = s.source + count; part = s.part }

-- the output or the input failed, or memory was wanted, after a slice, whatever that came to
pub so_cut : {E : Type 0} (on : E → Standing) (over : E → List ℕ → Type 0) (a : Accepted) (budget count : ℕ) (e e' : E) (left left' before now after : Option (List ℕ)) (env env' : Env) (told : Slice) (end : JobEnd) (s s' : Counted)
    → IsRunnable a → TellsBytes left → So (on e) left left' before now env
    → ((env : Env) (more given flushed : List ℕ) → on e' env more given flushed → HasWay a budget given (flushed ++ env.output.items) count)
    → ((more given flushed : List ℕ) → on e env more given flushed → Came on over a count budget told e' env' more given flushed)
    → IsShort end → AddsPrefix now after env'.output.items → HasCounted s s' count
    → OnInput left (λ given. OnRun a given budget (SlicedSo (over e' given) end before after s s'))
so_cut on over a budget count e e' left left' before now after env env' told end s s' runnable tells so way came short given counts =
    on_input left left' env.ended so.read (λ given. OnRun a given budget (SlicedSo (over e' given) end before after s s')) tells so.are_bytes so.reads (λ more are closed.
    let all : List ℕ = so.read ++ more in
    let bytes : List ℕ = so.flushed ++ env'.output.items in
    let done = came_part on over a count budget told e' env' more all so.flushed way (runnable.runs all (each_append so.read more so.are_bytes are) budget) (came more all so.flushed (so.stands more are closed)) in
    let within = done.part.within in
    record {
      ran = done.ran;
      runs = done.run;
      so = record {
        so = short_so end before after s s' done.ran short
            (subst (λ (o : List ℕ). AddsPrefix before after o) (sym done.part.output) (adds_part before now after so.flushed env'.output.items done.part.more so.wrote given))
            (ap (λ (c : Counted). c.part) counts)
            (rw counts (omega arith))
            (rw counts (omega arith));
        ended = short_over end (over e' all) short;
      };
    })

-- what an engine says within its own budget, within another that is the same
pub way_at : {E : Type 0} (on : E → Standing) (limit : E → ℕ) (a : Accepted) (budget count : ℕ) (e : E) → limit e ≡ budget
    → ((env : Env) (more given flushed : List ℕ) → on e env more given flushed → HasWay a (limit e) given (flushed ++ env.output.items) count)
    → (env : Env) (more given flushed : List ℕ) → on e env more given flushed → HasWay a budget given (flushed ++ env.output.items) count
way_at on limit a budget count e same way env more given flushed stands = subst (λ (n : ℕ). HasWay a n given (flushed ++ env.output.items) count) same (way env more given flushed stands)

pub came_at : {E : Type 0} (on : E → Standing) (over : E → List ℕ → Type 0) (a : Accepted) (limit budget count : ℕ) (told : Slice) (e e' : E) (env env' : Env) → limit ≡ budget
    → ((more given flushed : List ℕ) → on e env more given flushed → Came on over a count limit told e' env' more given flushed)
    → (more given flushed : List ℕ) → on e env more given flushed → Came on over a count budget told e' env' more given flushed
came_at on over a limit budget count told e e' env env' same came more given flushed stands = subst (λ (n : ℕ). Came on over a count n told e' env' more given flushed) same (came more given flushed stands)

-- a job that did not begin
pub no_job : (a : Accepted) (budget : ℕ) (left held : Option (List ℕ)) (s : Counted) → IsRunnable a → TellsBytes left → OnInput left (λ given. OnRun a given budget (RanSo job.NoMemory held held s s))
no_job a budget left held s runnable tells =
    any_input left (λ given. OnRun a given budget (RanSo job.NoMemory held held s s)) tells (λ given are.
    let run = runnable.runs given are budget in
    record { ran = run.0; runs = run.1; so = short_so job.NoMemory held held s s run.0 tt (adds_none held run.0.output) refl (omega arith) (omega arith) })

-- what an engine says is more than what a job tells
pub job_only : (a : Accepted) (budget : ℕ) (left old new : Option (List ℕ)) (over : List ℕ → Type 0) (end : JobEnd) (s s' : Counted) → OnInput left (λ given. OnRun a given budget (SlicedSo (over given) end old new s s'))
    → OnInput left (λ given. OnRun a given budget (RanSo end old new s s'))
job_only a budget left old new over end s s' on =
    input_more (λ given. OnRun a given budget (SlicedSo (over given) end old new s s')) (λ given. OnRun a given budget (RanSo end old new s s')) left (λ given are x. record { ran = x.ran; runs = x.runs; so = x.so.so }) on

-- ---- the run is over

pub so_ended : {E : Type 0} (on : E → Standing) (over : E → List ℕ → Type 0) (a : Accepted) (budget count : ℕ) (e e' : E) (left left' before now after : Option (List ℕ)) (env env' : Env) (end : End) (report : Report) (s s' : Counted)
    → TellsBytes left → So (on e) left left' before now env
    → ((more given flushed : List ℕ) → on e env more given flushed → Came on over a count budget (slice.Ended end) e' env' more given flushed)
    → Adds now after env'.output.items → report ≡ report_alone count → HasCounted s s' count
    → OnInput left (λ given. OnRun a given budget (SlicedSo (over e' given) (job.Ended end report) before after s s'))
so_ended on over a budget count e e' left left' before now after env env' end report s s' tells so came given told counts =
    on_input left left' env.ended so.read (λ given. OnRun a given budget (SlicedSo (over e' given) (job.Ended end report) before after s s')) tells so.are_bytes so.reads (λ more are closed.
    let is = came more (so.read ++ more) so.flushed (so.stands more are closed) in
    record {
      ran = ran_by (so.flushed ++ env'.output.items) count end;
      runs = is.0;
      so = record {
        so = record { is = (refl, told, adds_then before now after so.flushed env'.output.items so.wrote given); counts = counts };
        ended = is.1;
      };
    })

-- ---- counts

pub rose_later : (a b c : ℕ) → a ≤ b → Rose b c → Rose a c
rose_later a b c le rose = omega arith

-- more was counted of a source
pub counts_more : (role : Role) (s₀ s s' : Counted) (count count' : ℕ) → role ≡ Source → count ≤ count' → HasCounted s₀ s count → s' ≡ counted role (count' - count) s → HasCounted s₀ s' count'
counts_more role s₀ s s' count count' is le e e' =
    let sum : s₀.source + count + (count' - count) ≡ s₀.source + count' = omega (arith, le) in
    e' ∙ ap (λ (q : Role). counted q (count' - count) s) is
    ∙ ap (λ (t : Counted). record { source = t.source + (count' - count); part = t.part }) e ∙ ap (λ (k : ℕ). record { source = k; part = s₀.part }) sum

pub counts_start : (s : Counted) (count : ℕ) → count ≡ 0 → HasCounted s s count
counts_start s count none = ap (λ (k : ℕ). record { source = k; part = s.part }) (sym (add-zero s.source) ∙ ap (λ (k : ℕ). s.source + k) (sym none))

-- ---- the input

-- the source goes on
pub read_on : (left left' : Option (List ℕ)) (ended : Bool) (read : List ℕ) → HasRead left left' ended read → GoesOn left left'
read_on None left' ended read reads = tt
read_on (Some l) left' ended read reads = (read, reads.0, reads.1, reads.2)

pub goes_on_twice : (left left' left'' : Option (List ℕ)) → GoesOn left left' → GoesOn left' left'' → GoesOn left left''
goes_on_twice None left' left'' a b = tt
goes_on_twice (Some l) left' left'' a b =
    let c = subst (λ (o : Option (List ℕ)). GoesOn o left'') a.3 b in
    (a.0 ++ c.0, c.1, a.2 ∙ ap (λ (x : List ℕ). a.0 ++ x) c.2 ∙ sym (append_assoc a.0 c.0 c.1), c.3)

-- ---- each slice, and each take from the source, leaves less work

abbrev flag : Bool → ℕ
flag b = if b then 1 else 0

flag_most : (b : Bool) → flag b ≤ 1
flag_most true = omega arith
flag_most false = omega arith

pub less_stepped : (budget budget' count count' : ℕ) (env env' : Env) → budget' ≡ budget → count < count' → count' ≤ budget' → work_left budget' count' env' < work_left budget count env
less_stepped budget budget' count count' env env' same more within = let most = flag_most (is_open env') in omega arith

-- an input that is wanted, and was not there before
open_flag : (env : Env) → env.input ≡ [] → env.ended ≡ false → flag (is_open env) ≡ 1
open_flag env none open_end = ap (λ (x : List ℕ). flag (is_empty x && not env.ended)) none ∙ ap (λ (b : Bool). flag (is_empty {A = ℕ} [] && not b)) open_end

less_by : (b b' c c' f f' : ℕ) → b' ≡ b → c ≤ c' → c' ≤ b' → f' ≡ 0 → (c' ≡ c → f ≡ 1) → (k : ℕ) → c' ≡ c + k → 2 * (b' - c') + f' < 2 * (b - c) + f
less_by b b' c c' f f' same later within none some zero sum = let one = some (sum ∙ add-zero c) in omega arith
less_by b b' c c' f f' same later within none some (suc k) sum = omega arith

pub less_fed : (budget budget' count count' : ℕ) (left left' : Option (List ℕ)) (env env' env'' : Env) → budget' ≡ budget → count ≤ count' → count' ≤ budget' → (count' ≡ count → env.input ≡ []) → env.ended ≡ false
    → IsFed left left' env' env'' → work_left budget' count' env'' < work_left budget count env
less_fed budget budget' count count' left left' env env' env'' same later within dry open_end fed =
    less_by budget budget' count count' (flag (is_open env)) (flag (is_open env'')) same later within (ap flag fed.closed) (λ e. open_flag env (dry e) open_end) (count' - count) (omega arith)
