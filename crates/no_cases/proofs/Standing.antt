-- Machines that may be run, and such that have not begun.
use Rattle.std.proofs.Common.{◌≡◌, ◌+◌, ◌-◌, ◌*◌, ◌<◌, ◌≤◌, ◌||◌, nat_eq, slice_index, get_or, ℕ, Bool, true, false, true≢false, List, [], ◌++◌, length, append_assoc, refl, sym, ap, subst, ◌∙◌, Option, Some, None, Result, Ok, Err, arith}
use Rattle.std.specs.Prelude.{IfOk, OnOk}
use Rattle.std.proofs.lemmas.Bool.{eq-eqb}
use Rattle.std.proofs.lemmas.Option.{none-some, same_Some}
use Rattle.no_app.proofs.Jobs.{each_append}
use Rattle.no_app.proofs.Runnable.{never_stuck, runnable}
use Rattle.no_app.specs.Jobs.{AreBytes}
use Rattle.no_engine.proofs.Ways.{RanBy, free_steps, run_steps}
use Rattle.no_engine.specs.Local.{own}
use Rattle.no_ir.specs.declared.ending.End.{End}
use Rattle.no_ir.specs.declared.function.Role.TheVariants.{Source}
use Rattle.no_ir.specs.declared.memory.NoMemory.{NoMemory}
use Rattle.no_layout.proofs.Agreeing.{supplied_keeps}
use Rattle.no_layout.proofs.Overlay.{inside}
use Rattle.no_layout.specs.Memory.{Agrees, also, page_of, written}
use Rattle.no_layout.specs.declared.memory.Regions.{Regions}
use Rattle.no_lib.specs.declared.env.Env.{Env}
use Rattle.no_machine.specs.Booted.{HasPage, IsBooted}
use Rattle.no_machine.specs.Ran.{GoesOn, HasNotMoved, HasRun, IsAt, IsMade, IsThere, Stays, Stops, budget_of, count_of, end_of, left_of, memory_of}
use Rattle.no_machine.specs.Ran as machine
use Rattle.no_machine.specs.Turning.{NeverStuck}
use Rattle.no_machine.specs.declared.machine.Machine.{Machine}
use Rattle.no_machine.specs.declared.machine.StepAnswer.{StepAnswer}
use Rattle.no_machine.specs.declared.machine.StepAnswer.TheVariants as answer
use Rattle.no_pages.specs.Table.{byte_of, held_of, regions_of}
use Rattle.no_pages.specs.declared.table.PageTable.{PageTable}
use Rattle.no_progress.proofs.Beginning.{begins}
use Rattle.no_safe.proofs.Accepting.{has_main, is_safe}
use Rattle.no_semantics.specs.Accepted.{Accepted}
use Rattle.no_semantics.specs.Acting.{step}
use Rattle.no_semantics.specs.First.{program_of}
use Rattle.no_semantics.specs.Registers.{given}
use Rattle.no_semantics.specs.Rows.{Row}
use Rattle.no_semantics.specs.Starts.{begun, main_frame, start}
use Rattle.no_semantics.specs.States.{Frame, State}
use Rattle.no_semantics.specs.Values.{Program}
use Rattle.no_verify.specs.Verdict.{IsAccepted}
use Rattle.no_cases.specs.Standing.{IsFresh, IsReady, StandsFor}

abbrev Machine' : Type 0
Machine' = Machine PageTable

-- ---- the beginning

-- a run begins over the memory that is given
begun_over : (p : Program) (byte : ℕ → ℕ) (input : List ℕ) (s : State) → start p byte input ≡ Some s → s.byte ≡ byte
unfolding start
begun_over p byte input s e = by (main_frame p) e
  where
    by : (o : Option Frame) → given None o (λ f. Some (begun byte input f)) ≡ Some s → s.byte ≡ byte
    by None e = absurd (none-some s e)
    by (Some f) e = ap (λ (t : State). t.byte) (sym (same_Some (begun byte input f) s e))

abbrev placed : Accepted → List ℕ → Regions → Program
placed a addresses regions = record { «module» = a.«module»; layout = a.layout; sizes = a.sizes; addresses = addresses; regions = regions; role = a.role }

fresh : (a : Accepted) (addresses : List ℕ) (mem : PageTable) (budget : ℕ) (m : Machine') (env : Env) → IsAccepted a.«module» Source a
    → IsBooted byte_of held_of regions_of a addresses mem budget m → addresses ≡ (program_of a).addresses → regions_of mem ≡ (program_of a).regions → env.input ≡ [] → IsFresh a m env
fresh a addresses mem budget m env is booted places ends none = record {
  made = booted.made;
  marks = (runnable a.«module» a is).marks;
  uncounted = booted.uncounted;
  goes_on = booted.goes_on;
  at = λ whole agrees more are closed.
      let first = begins (program_of a) (is_safe a is) (has_main a is).main whole more are in (
        first.0,
        begun_over (program_of a) whole more first.0 first.1,
        booted.starts whole more first.0 (subst (λ (p : Program). start p whole more ≡ Some first.0) (sym same) first.1)
            (subst (λ (x : PageTable). Agrees (held_of x) (byte_of x) whole) booted.memory agrees)
            (subst (λ (p : Program). NeverStuck p first.0) (sym same) (never_stuck (program_of a) (is_safe a is) first.0 first.2))
            env more (sym (ap (λ (x : List ℕ). x ++ more) none)) closed,
      );
}
  where
    same : machine.program_of regions_of a m ≡ program_of a
    same =
        ap (λ (xs : List ℕ). placed a xs (regions_of (memory_of m))) (booted.globals ∙ places)
        ∙ ap (λ (r : Regions). placed a (program_of a).addresses r) (ap regions_of booted.memory ∙ ends)

pub all_fresh : (a : Accepted) (addresses : List ℕ) (mem : PageTable) (budget : ℕ) (r : Result Machine' NoMemory) (env : Env) → IsAccepted a.«module» Source a
    → IfOk r (λ m. IsBooted byte_of held_of regions_of a addresses mem budget m) → addresses ≡ (program_of a).addresses → regions_of mem ≡ (program_of a).regions → env.input ≡ []
    → IfOk r (λ m. IsFresh a m env)
all_fresh a addresses mem budget (Ok m) env is booted places ends none = fresh a addresses mem budget m env is booted places ends none
all_fresh a addresses mem budget (Err e) env is booted places ends none = tt

-- ---- it may be run

pub ready : (a : Accepted) (m : Machine') (env : Env) → IsFresh a m env → IsReady a m env
ready a m env is = record {
  made = is.made;
  within = rw is.uncounted (omega arith);
  at = λ going more are closed.
      let x = is.at (byte_of (memory_of m)) (λ at known. refl) more are closed in
      (x.0, x.2);
}

pub may_run : (a : Accepted) (m : Machine') (env : Env) → IsReady a m env → end_of m ≡ None → (s : State) × (more : List ℕ) × StandsFor a m env more s
may_run a m env is going =
    let x = is.at going [] tt (λ e. refl) in
    (x.0, [], x.1)

-- ---- it was run

-- the answers after which the run may go on
abbrev MayGoOn : StepAnswer → Type 0
MayGoOn answer.Stepped = Unit {0}
MayGoOn (answer.WantPage page) = Unit {0}
MayGoOn answer.WantInput = Unit {0}
MayGoOn answer.NoMemory = Unit {0}
MayGoOn (answer.Ended e) = ⊥
MayGoOn answer.Stuck = ⊥

-- where it is then, and what was counted
abbrev Went : Program → State → List ℕ → ℕ → List ℕ → Machine' → Machine' → Env → Env → Type 0
Went p state bytes cost more m m' env env' = IsThere byte_of held_of p bytes state more m' env env' × GoesOn cost m m'

went_by : (p : Program) (s : State) (limit : ℕ) (bytes : List ℕ) (cost : ℕ) (state : State) (row : Row) (more : List ℕ) (told : StepAnswer) (m m' : Machine') (env env' : Env)
    → MayGoOn told → Stops byte_of held_of limit p s bytes cost state row more told m m' env env' → Went p state bytes cost more m m' env env'
went_by p s limit bytes cost state row more answer.Stepped m m' env env' may stops = (stops.0, stops.2)
went_by p s limit bytes cost state row more (answer.WantPage page) m m' env env' may stops = (stops.0, stops.2)
went_by p s limit bytes cost state row more answer.WantInput m m' env env' may stops = (stops.0, stops.4)
went_by p s limit bytes cost state row more answer.NoMemory m m' env env' may stops = stops
went_by p s limit bytes cost state row more (answer.Ended e) m m' env env' may stops = absurd may
went_by p s limit bytes cost state row more answer.Stuck m m' env env' may stops = absurd may

run_went : (a : Accepted) (limit : ℕ) (told : StepAnswer) (m m' : Machine') (env env' : Env) (more : List ℕ) (s : State) → MayGoOn told
    → (run : HasRun byte_of held_of (own a m) limit told m m' env env' more s) → Went (own a m) run.state run.bytes run.cost more m m' env env'
run_went a limit told m m' env env' more s may run =
    went_by (own a m) s limit run.bytes run.cost run.state (step (own a m) (left_of m - run.cost) run.state) more told m m' env env' may run.stops

module _ (a : Accepted) (limit : ℕ) (m m' : Machine') (env env' : Env) (stays : Stays regions_of held_of m m') where
  -- it stands for the state behind it
  there : (told : StepAnswer) (ran : RanBy a limit told m m' env env') → MayGoOn told → (more : List ℕ) (s : State) (at : StandsFor a m env more s) → StandsFor a m' env' more (ran more s at).state
  there told ran may more s at =
      subst (λ (p : Program). IsAt byte_of held_of p m' env' more (ran more s at).state) (sym (stays.same_program a)) (run_went a limit told m m' env env' more s may (ran more s at)).0.0

  ended_not : (told : StepAnswer) → RanBy a limit told m m' env env' → (told ≡ answer.Stuck → ⊥) → end_of m' ≡ None → (more : List ℕ) (s : State) → StandsFor a m env more s → (t : State) × StandsFor a m' env' more t
  ended_not answer.Stepped ran not going more s at = ((ran more s at).state, there answer.Stepped ran tt more s at)
  ended_not (answer.WantPage page) ran not going more s at = ((ran more s at).state, there (answer.WantPage page) ran tt more s at)
  ended_not answer.WantInput ran not going more s at = ((ran more s at).state, there answer.WantInput ran tt more s at)
  ended_not answer.NoMemory ran not going more s at = ((ran more s at).state, there answer.NoMemory ran tt more s at)
  ended_not (answer.Ended e) ran not going more s at = absurd (none-some e (sym going ∙ (ran more s at).stops.1.ended))
  ended_not answer.Stuck ran not going more s at = absurd (not refl)

  pub turned : (told : StepAnswer) → IsReady a m env → (end_of m ≡ None → RanBy a limit told m m' env env') → HasNotMoved (end_of m) told m m' env env' → count_of m' ≤ budget_of m' → IsMade a m'
      → (told ≡ answer.Stuck → ⊥) → IsReady a m' env'
  turned told is ran over within made not = record {
    made = made;
    within = within;
    at = λ going more are closed. by (end_of m) refl over going more are closed;
  }
    where
      by : (o : Option End) → end_of m ≡ o → HasNotMoved o told m m' env env' → end_of m' ≡ None → (more : List ℕ) → AreBytes more → (env'.ended ≡ true → more ≡ []) → (s : State) × StandsFor a m' env' more s
      by None none over going more are closed =
          let plain = is.at none [] tt (λ e. refl) in
          let same_end = (ran none [] plain.0 plain.1).same_end in
          let x = is.at none more are (λ e. closed (same_end ∙ e)) in
          ended_not told (ran none) not going more x.0 x.1
      by (Some e) some over going more are closed = absurd (none-some e (sym going ∙ ap (λ (x : Machine'). end_of x) over.1 ∙ some))

  -- it waits at its beginning
  pub waited : (told : StepAnswer) → IsFresh a m env → (end_of m ≡ None → RanBy a limit told m m' env env') → IsMade a m' → MayGoOn told → count_of m' ≡ 0 → IsFresh a m' env'
  waited told is ran made may none = record {
    made = made;
    marks = is.marks;
    uncounted = none;
    goes_on = (went [] plain.0 plain.2).1.1;
    at = λ whole agrees more are closed.
        let x = is.at whole (old_agrees whole agrees) more are (λ e. closed (same_end ∙ e)) in
        let run = ran is.goes_on more x.0 x.2 in
        (run.state, ap (λ (t : State). t.byte) (same more x.0 x.2) ∙ x.1, there told (ran is.goes_on) may more x.0 x.2);
  }
    where
      plain : (s : State) × (s.byte ≡ byte_of (memory_of m)) × StandsFor a m env [] s
      plain = is.at (byte_of (memory_of m)) (λ at known. refl) [] tt (λ e. refl)

      went : (more : List ℕ) (s : State) (at : StandsFor a m env more s) → Went (own a m) (ran is.goes_on more s at).state (ran is.goes_on more s at).bytes (ran is.goes_on more s at).cost more m m' env env'
      went more s at = run_went a limit told m m' env env' more s may (ran is.goes_on more s at)

      same_end : env'.ended ≡ env.ended
      same_end = (ran is.goes_on [] plain.0 plain.2).same_end

      same : (more : List ℕ) (s : State) (at : StandsFor a m env more s) → (ran is.goes_on more s at).state ≡ s
      same more s at =
          let run = ran is.goes_on more s at in
          free_steps (own a m) s run.state run.bytes run.cost is.marks (run_steps a limit told m m' env env' more s run)
          (omega (arith, (went more s at).1.0, none, is.uncounted))

      old_agrees : (whole : ℕ → ℕ) → Agrees (held_of (memory_of m')) (byte_of (memory_of m')) whole → Agrees (held_of (memory_of m)) (byte_of (memory_of m)) whole
      old_agrees whole agrees at known =
          let now = ap (λ (f : ℕ → Bool). f (page_of at)) stays.same_pages ∙ known in
          let t = there told (ran is.goes_on) may [] plain.0 plain.2 in
          ap (λ (f : ℕ → ℕ). f at) (sym plain.1) ∙ ap (λ (s : State). s.byte at) (sym (same [] plain.0 plain.2)) ∙ sym (t.here.agrees at now) ∙ agrees at now

-- ---- the input

-- it stands for its state in each environment of which the input is the same to the end
in_env : (p : Program) (m : Machine') (env env' : Env) (more more' : List ℕ) (s : State) → IsAt byte_of held_of p m env more s
    → env.input ++ more ≡ env'.input ++ more' → (env'.ended ≡ true → more' ≡ []) → IsAt byte_of held_of p m env' more' s
in_env p m env env' more more' s at same closed = record {
  here = at.here;
  blocks = at.blocks;
  rest = at.rest ∙ same;
  last = closed;
}

pub fed : (a : Accepted) (m : Machine') (env env' : Env) (bytes : List ℕ) → IsReady a m env → AreBytes bytes → (env.ended ≡ true → ⊥) → env'.input ≡ env.input ++ bytes → IsReady a m env'
fed a m env env' bytes is are open_end input = record {
  made = is.made;
  within = is.within;
  at = λ going more all closed.
      let x = is.at going (bytes ++ more) (each_append bytes more are all) (λ e. absurd (open_end e)) in
      (x.0, in_env (own a m) m env env' (bytes ++ more) more x.0 x.1 (sym (ap (λ (x : List ℕ). x ++ more) input ∙ append_assoc env.input bytes more)) closed);
}

pub all_fed : (a : Accepted) (m : Machine') (env env' : Env) (bytes : List ℕ) (r : Result (Unit {0}) NoMemory) → IsReady a m env → AreBytes bytes → env.ended ≡ false
    → OnOk r (env'.input ≡ env.input ++ bytes) → OnOk r (IsReady a m env')
all_fed a m env env' bytes (Ok x) is are open_end input = fed a m env env' bytes is are (λ e. true≢false (sym e ∙ open_end)) input
all_fed a m env env' bytes (Err e) is are open_end input = tt

-- ---- a page

or_right : (a b : Bool) → b ≡ true → (a || b) ≡ true
or_right true b e = refl
or_right false b e = e

same_page : (p k : ℕ) → k < 4096 → page_of (4096 * p + k) ≡ p
same_page p k lt = omega (arith, lt)

-- a page is given
pub supplied : (a : Accepted) (m m' : Machine') (env : Env) (p : ℕ) (bytes : List ℕ) → IsFresh a m env → IsMade a m' → count_of m' ≡ count_of m → end_of m' ≡ end_of m
    → held_of (memory_of m) p ≡ false → length bytes ≡ 4096
    → byte_of (memory_of m') ≡ written (byte_of (memory_of m)) (4096 * p) bytes → held_of (memory_of m') ≡ also (held_of (memory_of m)) p
    → ((more : List ℕ) (s : State) → HasPage s.byte p bytes → StandsFor a m env more s → StandsFor a m' env more s)
    → IsFresh a m' env
supplied a m m' env p bytes is made count end absent len byte' held' on = record {
  made = made;
  marks = is.marks;
  uncounted = count ∙ is.uncounted;
  goes_on = end ∙ is.goes_on;
  at = λ whole agrees more are closed.
      let x = is.at whole (old_agrees whole agrees) more are closed in
      (x.0, x.1, on more x.0 (λ k lt. page whole agrees k (omega (arith, lt, len)) ∙ ap (λ (f : ℕ → ℕ). f (4096 * p + k)) (sym x.1)) x.2);
}
  where
    byte : ℕ → ℕ
    byte = byte_of (memory_of m)

    held : ℕ → Bool
    held = held_of (memory_of m)

    now_held : (q : ℕ) → also held p q ≡ true → held_of (memory_of m') q ≡ true
    now_held q e = ap (λ (f : ℕ → Bool). f q) held' ∙ e

    old_agrees : (whole : ℕ → ℕ) → Agrees (held_of (memory_of m')) (byte_of (memory_of m')) whole → Agrees held byte whole
    old_agrees whole agrees at known =
        sym (supplied_keeps held byte p bytes absent len at known) ∙ ap (λ (f : ℕ → ℕ). f at) (sym byte')
        ∙ agrees at (now_held (page_of at) (or_right (nat_eq (page_of at) p) (held (page_of at)) known))

    page : (whole : ℕ → ℕ) → Agrees (held_of (memory_of m')) (byte_of (memory_of m')) whole → (k : ℕ) → k < 4096 → slice_index bytes k ≡ whole (4096 * p + k)
    page whole agrees k lt =
        let here : page_of (4096 * p + k) ≡ p = same_page p k lt in
        let there : nat_eq (page_of (4096 * p + k)) p ≡ true = eq-eqb (page_of (4096 * p + k)) p here in
        let behind : 4096 * p + k - 4096 * p ≡ k = omega arith in
        let read : written byte (4096 * p) bytes (4096 * p + k) ≡ get_or bytes (4096 * p + k - 4096 * p) 0 = inside byte (4096 * p) bytes (4096 * p + k) (omega arith) (omega (arith, lt, len)) in
        sym (ap (λ (j : ℕ). get_or bytes j 0) behind) ∙ sym read ∙ ap (λ (f : ℕ → ℕ). f (4096 * p + k)) (sym byte')
        ∙ agrees (4096 * p + k) (now_held (page_of (4096 * p + k)) (rw there refl))

pub all_supplied : (a : Accepted) (m m' : Machine') (env : Env) (p : ℕ) (bytes : List ℕ) (r : Result (Unit {0}) NoMemory) → IsFresh a m env → IsMade a m' → count_of m' ≡ count_of m → end_of m' ≡ end_of m
    → held_of (memory_of m) p ≡ false → length bytes ≡ 4096
    → OnOk r (byte_of (memory_of m') ≡ written (byte_of (memory_of m)) (4096 * p) bytes) → OnOk r (held_of (memory_of m') ≡ also (held_of (memory_of m)) p)
    → ((more : List ℕ) (s : State) → HasPage s.byte p bytes → StandsFor a m env more s → StandsFor a m' env more s)
    → OnOk r (IsFresh a m' env)
all_supplied a m m' env p bytes (Ok x) is made count end absent len byte' held' on = supplied a m m' env p bytes is made count end absent len byte' held' on
all_supplied a m m' env p bytes (Err e) is made count end absent len byte' held' on = tt
