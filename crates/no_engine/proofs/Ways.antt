-- A machine that goes on in the run of its program.
use Rattle.std.proofs.Common.{◌≡◌, ℕ, zero, suc, ◌+◌, ◌-◌, ◌<◌, ◌≤◌, Bool, true, false, true≢false, List, [], ◌++◌, refl, sym, ap, subst, ◌∙◌, append_assoc, append-nil, Option, Some, None, option_map, arith}
use Rattle.std.proofs.lemmas.List.{append_cancel_right}
use Rattle.std.proofs.lemmas.Option.{none-some, same_Some}
use Rattle.no_ir.specs.declared.ending.End.{End}
use Rattle.no_layout.specs.Memory.{AreFormed, IsPage}
use Rattle.no_lib.specs.declared.env.Env.{Env}
use Rattle.no_pages.proofs.Supplied.{page_within}
use Rattle.no_pages.specs.Table.{byte_of, held_of, regions_of}
use Rattle.no_machine.proofs.Counting.{paid_all}
use Rattle.no_machine.proofs.Each.{steps_of}
use Rattle.no_machine.specs.Ran.{GoesOn, HasRun, IsAt, IsMade, IsThere, Stays, budget_of, count_of, left_of, memory_of}
use Rattle.no_machine.specs.declared.machine.StepAnswer.{StepAnswer}
use Rattle.no_machine.specs.declared.machine.StepAnswer.TheVariants as answer
use Rattle.no_semantics.specs.Accepted.{Accepted}
use Rattle.no_semantics.specs.Acting.{row, step}
use Rattle.no_semantics.specs.First.{program_of}
use Rattle.no_semantics.specs.Rows.{HasNoMeaning, Next, Goes, Leaves, Ends, Stuck}
use Rattle.no_semantics.specs.Runs as runs
use Rattle.no_semantics.specs.Runs.{Finish, Returned, Ended, Ran, IsRun, Runs, Whole, finished, ran_by, ran_of, resumed, within, whole_by}
use Rattle.no_semantics.specs.Starts.{start_of}
use Rattle.no_semantics.specs.States.{HasNoMarks, State}
use Rattle.no_semantics.specs.Steps.{Reached, Steps, after, here}
use Rattle.no_semantics.specs.Values.{Program}
use Rattle.no_semantics.proofs.Running.{first_of, runs_resume, runs_split, steps_compose}
use Rattle.no_engine.specs.Local.{HasPages, IsOnWay, Local, StandsFor, own, way_of}
use Rattle.no_engine.specs.Parts.{HasWay}

-- ---- a run to a limit

-- what a machine says that ran to a limit
abbrev pub RanBy : Accepted → ℕ → StepAnswer → Local → Local → Env → Env → Type 0
RanBy a limit told m m' env env' = (more : List ℕ) → (s : State) → StandsFor a m env more s → HasRun byte_of held_of (own a m) limit told m m' env env' more s

-- no run changes which pages are there
pub pages_stay : (m m' : Local) → Stays regions_of held_of m m' → HasPages m → HasPages m'
pages_stay m m' stays whole = record {
  formed = subst AreFormed (sym stays.same_regions) whole.formed;
  held = λ page lt. ap (λ (f : ℕ → Bool). f page) stays.same_pages ∙ whole.held page lt;
}

-- bytes behind those that were there
pub same_bytes : (flushed before bytes after : List ℕ) → after ≡ before ++ bytes → (flushed ++ before) ++ bytes ≡ flushed ++ after
same_bytes flushed before bytes after wrote = append_assoc flushed before bytes ∙ ap (λ (x : List ℕ). flushed ++ x) (sym wrote)

-- it goes on, at a state that these steps lead to
pub further : (a : Accepted) (m m' : Local) (env env' : Env) (more given flushed : List ℕ) (on : IsOnWay a m env more given flushed) (bytes : List ℕ) (cost : ℕ) (state : State)
    → Steps (own a m) on.state bytes cost state → IsThere byte_of held_of (own a m) bytes state more m' env env' → GoesOn cost m m'
    → Stays regions_of held_of m m' → count_of m' ≤ budget_of m' → IsMade a m' → IsOnWay a m' env' more given flushed
further a m m' env env' more given flushed on bytes cost state steps there goes stays most made = record {
  stands = record {
    going = goes.1;
    within = most;
    same_program = stays.same_program a ∙ on.stands.same_program;
    made = made;
    marks = on.stands.marks;
    whole = pages_stay m m' stays on.stands.whole;
  };
  ran = on.ran;
  run = subst (λ (n : ℕ). IsRun a given n on.ran) (sym stays.budget) on.run;
  begin = on.begin;
  begins = on.begins;
  state = state;
  at = subst (λ (p : Program). IsAt byte_of held_of p m' env' more state) (sym (stays.same_program a)) there.0;
  steps = subst (λ (n : ℕ). Steps (program_of a) on.begin (flushed ++ env'.output.items) n state) (sym goes.0)
      (subst (λ (x : List ℕ). Steps (program_of a) on.begin x (count_of m + cost) state)
      (same_bytes flushed env.output.items bytes env'.output.items there.1)
      (steps_compose (program_of a) on.begin on.state state (flushed ++ env.output.items) bytes (count_of m) cost on.steps
      (subst (λ (p : Program). Steps p on.state bytes cost state) on.stands.same_program steps)));
}

-- the steps of a run to a limit
pub run_steps : (a : Accepted) (limit : ℕ) (told : StepAnswer) (m m' : Local) (env env' : Env) (more : List ℕ) (s : State)
    → (run : HasRun byte_of held_of (own a m) limit told m m' env env' more s) → Steps (own a m) s run.bytes run.cost run.state
run_steps a limit told m m' env env' more s run = steps_of _ (own a m) s run.bytes run.cost run.state run.steps

-- ---- the answers after which it goes on

pub stepped : (a : Accepted) (limit : ℕ) (m m' : Local) (env env' : Env) → RanBy a limit answer.Stepped m m' env env' → Stays regions_of held_of m m' → count_of m' ≤ budget_of m' → IsMade a m'
    → (more given flushed : List ℕ) → IsOnWay a m env more given flushed → IsOnWay a m' env' more given flushed
stepped a limit m m' env env' ran stays most made more given flushed on =
    let run = ran more on.state on.at in
    further a m m' env env' more given flushed on run.bytes run.cost run.state (run_steps a limit answer.Stepped m m' env env' more on.state run) run.stops.0 run.stops.2 stays most made

pub wanted : (a : Accepted) (limit : ℕ) (m m' : Local) (env env' : Env) → RanBy a limit answer.WantInput m m' env env' → Stays regions_of held_of m m' → count_of m' ≤ budget_of m' → IsMade a m'
    → (more given flushed : List ℕ) → IsOnWay a m env more given flushed → IsOnWay a m' env' more given flushed
wanted a limit m m' env env' ran stays most made more given flushed on =
    let run = ran more on.state on.at in
    further a m m' env env' more given flushed on run.bytes run.cost run.state (run_steps a limit answer.WantInput m m' env env' more on.state run) run.stops.0 run.stops.4 stays most made

pub short : (a : Accepted) (limit : ℕ) (m m' : Local) (env env' : Env) → RanBy a limit answer.NoMemory m m' env env' → Stays regions_of held_of m m' → count_of m' ≤ budget_of m' → IsMade a m'
    → (more given flushed : List ℕ) → IsOnWay a m env more given flushed → HasWay a (budget_of m') given (flushed ++ env'.output.items) (count_of m')
short a limit m m' env env' ran stays most made more given flushed on =
    let run = ran more on.state on.at in
    way_of a m' env' more given flushed
    (further a m m' env env' more given flushed on run.bytes run.cost run.state (run_steps a limit answer.NoMemory m m' env env' more on.state run) run.stops.0 run.stops.1 stays most made)

-- ---- the run is over

same_ran : (o u : List ℕ) (c d : ℕ) (e : End) → o ≡ u → c ≡ d → ran_by o c e ≡ ran_by u d e
same_ran o u c d e p q = ap (λ (x : List ℕ). ran_by x c e) p ∙ ap (λ (x : ℕ). ran_by u x e) q

pub ended : (a : Accepted) (limit : ℕ) (e : End) (m m' : Local) (env env' : Env) → RanBy a limit (answer.Ended e) m m' env env' → Stays regions_of held_of m m'
    → (more given flushed : List ℕ) → IsOnWay a m env more given flushed → IsRun a given (budget_of m') (ran_by (flushed ++ env'.output.items) (count_of m') e)
ended a limit e m m' env env' ran stays more given flushed on =
    let run = ran more on.state on.at in
    let end = run.stops.1 in
    let p : Program = own a m in
    let s : State = on.state in
    let cost : ℕ = (step p (left_of m - run.cost) run.state).cost in
    let last : Whole = record { output = run.bytes; count = run.cost + cost; finish = end.finish; state = run.state } in
    let rest : Runs (program_of a) (left_of m) s last = subst (λ (q : Program). Runs q (left_of m) s last) on.stands.same_program end.runs in
    record {
      begin = on.begin;
      begins = on.begins;
      whole = resumed (flushed ++ env.output.items) (count_of m) last;
      runs = subst (λ (n : ℕ). Runs (program_of a) n on.begin (resumed (flushed ++ env.output.items) (count_of m) last)) (sym stays.budget)
          (runs_resume (program_of a) (budget_of m) on.begin s (flushed ++ env.output.items) (count_of m) last on.steps on.stands.within rest);
      is = ap (option_map (ran_by ((flushed ++ env.output.items) ++ run.bytes) (count_of m + (run.cost + cost)))) end.ends
          ∙ ap Some (same_ran ((flushed ++ env.output.items) ++ run.bytes) (flushed ++ env'.output.items) (count_of m + (run.cost + cost)) (count_of m') e
          (same_bytes flushed env.output.items run.bytes env'.output.items run.stops.0.1) (sym end.counted));
    }

-- ---- what cannot come

-- no page is wanted that has a byte in a region
pub none_wanted : (a : Accepted) (limit page : ℕ) (m m' : Local) (env env' : Env) → RanBy a limit (answer.WantPage page) m m' env env' → Stays regions_of held_of m m' → IsPage (regions_of (memory_of m')) page
    → (more given flushed : List ℕ) → IsOnWay a m env more given flushed → ⊥
none_wanted a limit page m m' env env' ran stays inside more given flushed on =
    let whole = pages_stay m m' stays on.stands.whole in
    let absent = (ran more on.state on.at).stops.1.absent in
    true≢false (sym (whole.held page (page_within (regions_of (memory_of m')) page whole.formed inside)) ∙ absent)

gives_nothing : (cost : ℕ) (next : Next) (s : State) (rest : State → Option Whole) (w : Whole) → HasNoMeaning next → whole_by cost next s rest ≡ Some w → w.finish ≡ Returned None
gives_nothing cost (Goes bytes call t) s rest w none e = absurd none
gives_nothing cost (Leaves (Some n)) s rest w none e = absurd none
gives_nothing cost (Leaves None) s rest w none e = ap (λ (v : Whole). v.finish) (sym (same_Some (finished cost (Returned None) s) w e))
gives_nothing cost (Ends end) s rest w none e = absurd none
gives_nothing cost Stuck s rest w none e = absurd (none-some w e)

no_finish : (p : Program) (n left : ℕ) (s : State) (w : Whole) → HasNoMeaning (step p left s).next → within p n left s ≡ Some w → w.finish ≡ Returned None
no_finish p zero left s w none e = absurd (none-some w e)
no_finish p (suc n) left s w none e = gives_nothing (step p left s).cost (step p left s).next s (within p n (left - (step p left s).cost)) w none e

no_run : (p : Program) (left count : ℕ) (s t : State) (bytes : List ℕ) (w : Whole) → Steps p s bytes count t → count ≤ left → Runs p left s w → HasNoMeaning (step p (left - count) t).next → w.finish ≡ Returned None
no_run p left count s t bytes w steps le runs none =
    let rest = runs_split p left s t bytes count w steps le runs in
    ap (λ (x : Whole). x.finish) rest.2 ∙ no_finish p rest.1.0 (left - count) t rest.0 none rest.1.1

no_answer : (w : Whole) (ran : Ran) → w.finish ≡ Returned None → ran_of w ≡ Some ran → ⊥
no_answer w ran finish is = none-some ran (sym (ap (λ (f : Finish). option_map (ran_by w.output w.count) (runs.end_of f)) finish) ∙ is)

-- a run does not come to a row without a meaning
pub no_end_without_meaning : (a : Accepted) (given : List ℕ) (budget count : ℕ) (begin t : State) (bytes : List ℕ) (ran : Ran) → IsRun a given budget ran → start_of a given ≡ Some begin
    → Steps (program_of a) begin bytes count t → count ≤ budget → HasNoMeaning (step (program_of a) (budget - count) t).next → ⊥
no_end_without_meaning a given budget count begin t bytes ran run begins steps le none =
    let begin_is : run.begin ≡ begin = same_Some run.begin begin (sym run.begins ∙ begins) in
    no_answer run.whole ran (no_run (program_of a) budget count begin t bytes run.whole steps le (subst (λ (s : State). Runs (program_of a) budget s run.whole) begin_is run.runs) none) run.is

pub never_stuck : (a : Accepted) (limit : ℕ) (m m' : Local) (env env' : Env) → RanBy a limit answer.Stuck m m' env env' → (more given flushed : List ℕ) → IsOnWay a m env more given flushed → ⊥
never_stuck a limit m m' env env' ran more given flushed on =
    let run = ran more on.state on.at in
    let p : Program = own a m in
    let stands = on.stands in
    let le : count_of m + run.cost ≤ budget_of m = omega (arith, run.afforded, stands.within) in
    let left_is : left_of m - run.cost ≡ budget_of m - (count_of m + run.cost) = omega arith in
    let steps = steps_compose (program_of a) on.begin on.state run.state (flushed ++ env.output.items) run.bytes (count_of m) run.cost on.steps
    (subst (λ (q : Program). Steps q on.state run.bytes run.cost run.state) stands.same_program (run_steps a limit answer.Stuck m m' env env' more on.state run)) in
    let none : HasNoMeaning (step (program_of a) (budget_of m - (count_of m + run.cost)) run.state).next =
    subst (λ (q : Program). HasNoMeaning (step q (budget_of m - (count_of m + run.cost)) run.state).next) stands.same_program
    (subst (λ (n : ℕ). HasNoMeaning (step p n run.state).next) left_is run.stops) in
    no_end_without_meaning a given (budget_of m) (count_of m + run.cost) on.begin run.state ((flushed ++ env.output.items) ++ run.bytes) on.ran on.run on.begins steps le none

-- ---- what a slice counts

-- steps that cost nothing are none
pub free_steps : (p : Program) (s t : State) (bytes : List ℕ) (cost : ℕ) → HasNoMarks p.«module» → Steps p s bytes cost t → cost ≡ 0 → t ≡ s
free_steps p s t bytes cost marks steps none = by steps.0 steps.1
  where
    by : (n : ℕ) → after p n s ≡ Some (record { output = bytes; count = cost; state = t }) → t ≡ s
    by zero e = ap (λ (q : Reached). q.state) (sym (same_Some (here s) (record { output = bytes; count = cost; state = t }) e))
    by (suc n) e =
        let first = first_of (row p s).next (row p s).cost (after p n) (record { output = bytes; count = cost; state = t }) e in
        let some = paid_all p marks s in
        let sum : (row p s).cost + first.others.count ≡ cost = ap (λ (q : Reached). q.count) first.is in
        absurd (omega (arith, some, sum, none))

pub counts_some : (a : Accepted) (limit : ℕ) (m m' : Local) (env env' : Env) → 0 < limit → RanBy a limit answer.Stepped m m' env env' → (more given flushed : List ℕ) → IsOnWay a m env more given flushed
    → count_of m < count_of m'
counts_some a limit m m' env env' some ran more given flushed on =
    let run = ran more on.state on.at in
    omega (arith, run.stops.1, run.stops.2.0)

-- where nothing was counted the input was empty before
pub had_none : (a : Accepted) (limit : ℕ) (m m' : Local) (env env' : Env) → RanBy a limit answer.WantInput m m' env env' → (more given flushed : List ℕ) → IsOnWay a m env more given flushed
    → count_of m' ≡ count_of m → env.input ≡ []
had_none a limit m m' env env' ran more given flushed on same =
    let run = ran more on.state on.at in
    let there = run.stops.0.0 in
    let none : run.cost ≡ 0 = omega (arith, run.stops.4.0) in
    let still : run.state ≡ on.state = free_steps (own a m) on.state run.state run.bytes run.cost on.stands.marks (run_steps a limit answer.WantInput m m' env env' more on.state run) none in
    let input : env.input ++ more ≡ [] ++ more = sym on.at.rest ∙ ap (λ (s : State). s.input) (sym still) ∙ there.rest ∙ ap (λ (x : List ℕ). x ++ more) run.stops.2 in
    append_cancel_right env.input [] more input

-- ---- the input

-- it ends nowhere but outside
pub same_end_of : (a : Accepted) (limit : ℕ) (told : StepAnswer) (m m' : Local) (env env' : Env) → RanBy a limit told m m' env env' → (more given flushed : List ℕ) → IsOnWay a m env more given flushed
    → env'.ended ≡ env.ended
same_end_of a limit told m m' env env' ran more given flushed on = (ran more on.state on.at).same_end

-- it is wanted where none is there, and more may come
pub wants_none : (a : Accepted) (limit : ℕ) (m m' : Local) (env env' : Env) → RanBy a limit answer.WantInput m m' env env' → (more given flushed : List ℕ) → IsOnWay a m env more given flushed
    → (env'.input ≡ []) × (env'.ended ≡ false)
wants_none a limit m m' env env' ran more given flushed on =
    let run = ran more on.state on.at in
    (run.stops.2, run.stops.3)
