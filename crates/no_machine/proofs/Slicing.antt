-- Bursts one after another.
use Rattle.std.proofs.Common.{◌≡◌, ◌≢◌, ℕ, ◌+◌, ◌-◌, ◌*◌, ◌^◌, ◌≤◌, ◌<◌, ◌==◌, nat_lt, inl, inr, eqb-true, ltb-false, Bool, List, [], ◌++◌, append-nil, append_assoc, Option, Some, None, refl, sym, ap, subst, ◌∙◌, arith}
use Rattle.std.proofs.lemmas.Bool.{cases_Bool}
use Rattle.no_heap.specs.Blocks.{AreLive}
use Rattle.no_ir.specs.declared.ending.End.{End}
use Rattle.no_layout.specs.Memory.{IsPage}
use Rattle.no_layout.specs.declared.memory.Regions.{Regions}
use Rattle.no_lib.specs.declared.env.Env.{Env}
use Rattle.no_semantics.specs.Accepted.{Accepted}
use Rattle.no_semantics.specs.Acting.{row, step}
use Rattle.no_semantics.specs.Rows.{Row, Next, EndsSo, Goes, Ends, Leaves, Stuck, limited}
use Rattle.no_semantics.specs.Runs as runs
use Rattle.no_semantics.specs.States.{State}
use Rattle.no_semantics.specs.Steps.{Steps}
use Rattle.no_semantics.specs.Values.{Program}
use Rattle.no_semantics.proofs.Running.{runs_resume}
use Rattle.no_machine.specs.Beginning.{Grows}
use Rattle.no_machine.specs.Each.{HasPages, StepsEach}
use Rattle.no_machine.specs.Burst.{HasBurst, Pauses, answer_of}
use Rattle.no_machine.specs.Ran.{GoesOn, HasRun, IsAt, IsThere, Stays, Stops, budget_of, count_of, end_of, left_of, memory_of, program_of}
use Rattle.no_machine.specs.declared.burst.Burst.{Burst}
use Rattle.no_machine.specs.declared.burst.Burst.TheVariants as burst
use Rattle.no_machine.specs.declared.machine.Machine.{Machine}
use Rattle.no_machine.specs.declared.machine.StepAnswer.{StepAnswer}
use Rattle.no_machine.specs.declared.machine.StepAnswer.TheVariants as answer
use Rattle.no_machine.specs.declared.state.Core.{Core}
use Rattle.no_machine.proofs.Each.{each_compose, each_none, steps_of}
use Rattle.no_machine.proofs.Needing.{needs_pages}
use Rattle.no_machine.proofs.Widening.{here_wider}

-- ---- how a run finishes

pub record IsFinish (next : Next) (e : End) : Type 0 where
  pub finish : runs.Finish
  pub ends : runs.end_of finish ≡ Some e
  pub is : (cost : ℕ) (s : State) (rest : State → Option runs.Whole) → runs.whole_by cost next s rest ≡ Some (runs.finished cost finish s)

pub finish_of : (next : Next) (e : End) → EndsSo next e → IsFinish next e
finish_of (Goes bytes call t) e so = absurd so
finish_of (Leaves None) e so = absurd so
finish_of (Leaves (Some n)) e so = record { finish = runs.Returned (Some n); ends = ap Some (sym so); is = λ cost s rest. refl }
finish_of (Ends end) e so = record { finish = runs.Ended end; ends = ap Some (sym so); is = λ cost s rest. refl }
finish_of Stuck e so = absurd so

-- some steps, and then the end
finishes : (p : Program) (left : ℕ) (s t : State) (bytes : List ℕ) (cost : ℕ) (e : End) → Steps p s bytes cost t → cost ≤ left → (f : IsFinish (step p (left - cost) t).next e)
    → runs.Runs p left s (record { output = bytes; count = cost + (step p (left - cost) t).cost; finish = f.finish; state = t })
finishes p left s t bytes cost e steps afforded f =
    let last : runs.Runs p (left - cost) t (runs.finished (step p (left - cost) t).cost f.finish t) =
    (1, f.is (step p (left - cost) t).cost t (runs.within p 0 ((left - cost) - (step p (left - cost) t).cost))) in
    subst (λ (o : List ℕ). runs.Runs p left s (record { output = o; count = cost + (step p (left - cost) t).cost; finish = f.finish; state = t })) (append-nil bytes)
    (runs_resume p left s t bytes cost (runs.finished (step p (left - cost) t).cost f.finish t) steps afforded last)

-- ---- bursts of a program

module _ {M : Type 0} (byte : M → ℕ → ℕ) (held : M → ℕ → Bool) (p : Program) where
  -- steps that went on lead from one machine to another
  pub record HasGone (old new : Machine M) (before after : Env) (more : List ℕ) (s : State) : Type 0 where
    pub bytes : List ℕ
    pub cost : ℕ
    pub state : State
    pub steps : StepsEach (HasPages (held (memory_of old))) p s bytes cost state
    pub at : IsAt byte held p new after more state
    pub counted : count_of new ≡ count_of old + cost
    pub running : end_of new ≡ None
    pub wrote : after.output.items ≡ before.output.items ++ bytes
    pub same_end : after.ended ≡ before.ended

  pub gone_nowhere : (m : Machine M) (env : Env) (more : List ℕ) (s : State) → end_of m ≡ None → IsAt byte held p m env more s → HasGone m m env env more s
  gone_nowhere m env more s running from = record {
    bytes = [];
    cost = 0;
    state = s;
    steps = each_none (HasPages (held (memory_of m))) p s;
    at = from;
    counted = omega arith;
    running = running;
    wrote = sym (append-nil env.output.items);
    same_end = refl;
  }

  -- slots were added
  pub gone_wider : (old mid new : Machine M) (before after : Env) (more : List ℕ) (s : State) → HasGone old mid before after more s → new ≡ record mid { core = new.core } → Grows mid.core new.core → HasGone old new before after more s
  gone_wider old mid new before after more s gone is grows = record {
    bytes = gone.bytes;
    cost = gone.cost;
    state = gone.state;
    steps = gone.steps;
    at = record {
      here = here_wider p byte held mid.core new.core grows gone.state gone.at.here;
      blocks = gone.at.blocks ∙ sym (ap (λ (c : Core M). c.heap) grows.same);
      rest = gone.at.rest;
      last = gone.at.last;
    };
    counted = ap (λ (m : Machine M). m.count) is ∙ gone.counted;
    running = ap (λ (m : Machine M). m.end) is ∙ gone.running;
    wrote = gone.wrote;
    same_end = gone.same_end;
  }

  -- a burst that went on, or had too few slots for more
  pub gone_by : (old new : Machine M) (before after : Env) (more : List ℕ) (s : State) (only : ℕ) (told : Burst) (b : HasBurst byte held p only told old new before after more s) → GoesOn b.cost old new → after.ended ≡ before.ended → HasGone old new before after more s
  gone_by old new before after more s only told b goes same = record {
    bytes = b.bytes;
    cost = b.cost;
    state = b.state;
    steps = b.steps;
    at = b.at;
    counted = goes.0;
    running = goes.1;
    wrote = b.wrote;
    same_end = same;
  }

  -- ---- what a burst says as a run does

  module _ (old new : Machine M) (before after : Env) (more : List ℕ) (s : State) (same : after.ended ≡ before.ended) where
    finished_run : (e : End) (bytes : List ℕ) (cost : ℕ) (state : State) → Steps p s bytes cost state → cost ≤ left_of old → IsThere byte held p bytes state more new before after
        → Pauses (held new.core.mem) (burst.Ended e) cost (step p (left_of old - cost) state) old new after → Stops byte held 1 p s bytes cost state (step p (left_of old - cost) state) more (answer.Ended e) old new before after
    finished_run e bytes cost state steps afforded there stops =
        let f : IsFinish (step p (left_of old - cost) state).next e = finish_of (step p (left_of old - cost) state).next e stops.0 in (
          there,
          record { finish = f.finish; ends = f.ends; runs = finishes p (left_of old) s state bytes cost e steps afforded f; counted = stops.2; ended = stops.3 },
          stops.1,
        )

    stops_as : (limit : ℕ) (told : Burst) (bytes : List ℕ) (cost : ℕ) (state : State) → told ≢ burst.Stepped → told ≢ burst.Room → Steps p s bytes cost state → cost ≤ left_of old → IsThere byte held p bytes state more new before after
        → Pauses (held new.core.mem) told cost (step p (left_of old - cost) state) old new after → Stops byte held limit p s bytes cost state (step p (left_of old - cost) state) more (answer_of told) old new before after
    stops_as limit burst.Stepped bytes cost state one other steps afforded there stops = absurd (one refl)
    stops_as limit burst.Room bytes cost state one other steps afforded there stops = absurd (other refl)
    stops_as limit (burst.WantPage page) bytes cost state one other steps afforded there stops = (there, stops.1, stops.0)
    stops_as limit burst.WantInput bytes cost state one other steps afforded there stops = (there, stops.1, stops.2, stops.3, stops.0)
    stops_as limit (burst.Ended e) bytes cost state one other steps afforded there stops = finished_run e bytes cost state steps afforded there stops
    stops_as limit burst.Stuck bytes cost state one other steps afforded there stops = stops.1
    stops_as limit burst.NoMemory bytes cost state one other steps afforded there stops = (there, stops)

    pub ran_by : (only limit : ℕ) (told : Burst) → told ≢ burst.Stepped → told ≢ burst.Room → HasBurst byte held p only told old new before after more s → HasRun byte held p limit (answer_of told) old new before after more s
    ran_by only limit told one other b = record {
      bytes = b.bytes;
      cost = b.cost;
      state = b.state;
      steps = b.steps;
      afforded = b.afforded;
      same_end = same;
      stops = stops_as limit told b.bytes b.cost b.state one other (steps_of (HasPages (held (memory_of old))) p s b.bytes b.cost b.state b.steps) b.afforded (b.at, b.wrote) b.stops;
    }

  -- the limit is reached
  pub reached : (old new : Machine M) (before after : Env) (more : List ℕ) (s : State) (limit : ℕ) → HasGone old new before after more s → budget_of new ≡ budget_of old → count_of new ≤ budget_of new → limit ≤ count_of new - count_of old → HasRun byte held p limit answer.Stepped old new before after more s
  reached old new before after more s limit gone same most enough = record {
    bytes = gone.bytes;
    cost = gone.cost;
    state = gone.state;
    steps = gone.steps;
    afforded = omega (arith, most, same, gone.counted);
    same_end = gone.same_end;
    stops = ((gone.at, gone.wrote), omega (arith, enough, gone.counted), (gone.counted, gone.running));
  }

  -- there was no memory for slots
  pub lacked : (old new : Machine M) (before after : Env) (more : List ℕ) (s : State) (limit : ℕ) → HasGone old new before after more s → budget_of new ≡ budget_of old → count_of new ≤ budget_of new → HasRun byte held p limit answer.NoMemory old new before after more s
  lacked old new before after more s limit gone same most = record {
    bytes = gone.bytes;
    cost = gone.cost;
    state = gone.state;
    steps = gone.steps;
    afforded = omega (arith, most, same, gone.counted);
    same_end = gone.same_end;
    stops = ((gone.at, gone.wrote), (gone.counted, gone.running));
  }

  -- ---- a burst behind others

  module _ (old mid new : Machine M) (before between after : Env) (more : List ℕ) (s : State) (gone : HasGone old mid before between more s) (same : budget_of mid ≡ budget_of old) (pages : held (memory_of mid) ≡ held (memory_of old)) (most : count_of mid ≤ budget_of mid) where
    pauses_then : (told : Burst) (h : ℕ → Bool) (cost : ℕ) (row : Row) → Pauses h told cost row mid new after → Pauses h told (gone.cost + cost) row old new after
    pauses_then burst.Stepped h cost row t = ((omega (arith, t.0.0, gone.counted), t.0.1), omega (arith, t.1))
    pauses_then burst.Room h cost row t = (omega (arith, t.0, gone.counted), t.1)
    pauses_then (burst.WantPage page) h cost row t = ((omega (arith, t.0.0, gone.counted), t.0.1), t.1)
    pauses_then burst.WantInput h cost row t = ((omega (arith, t.0.0, gone.counted), t.0.1), t.1, t.2, t.3)
    pauses_then (burst.Ended e) h cost row t = (t.0, t.1, omega (arith, t.2, gone.counted), t.3)
    pauses_then burst.Stuck h cost row t = ((omega (arith, t.0.0, gone.counted), t.0.1), t.1)
    pauses_then burst.NoMemory h cost row t = (omega (arith, t.0, gone.counted), t.1)

    pub burst_then : (only : ℕ) (told : Burst) → HasBurst byte held p only told mid new between after more gone.state → HasBurst byte held p 0 told old new before after more s
    burst_then only told b =
        let left : left_of mid - b.cost ≡ left_of old - (gone.cost + b.cost) = omega (arith, gone.counted, same) in
        record {
          bytes = gone.bytes ++ b.bytes;
          cost = gone.cost + b.cost;
          state = b.state;
          steps = each_compose (HasPages (held (memory_of old))) p s gone.state b.state gone.bytes b.bytes gone.cost b.cost gone.steps
              (subst (λ (h : ℕ → Bool). StepsEach (HasPages h) p gone.state b.bytes b.cost b.state) pages b.steps);
          afforded = omega (arith, b.afforded, gone.counted, same, most);
          wrote = b.wrote ∙ ap (λ (o : List ℕ). o ++ b.bytes) gone.wrote ∙ append_assoc before.output.items gone.bytes b.bytes;
          at = b.at;
          stops = subst (λ (k : ℕ). Pauses (held new.core.mem) told (gone.cost + b.cost) (step p k b.state) old new after) left (pauses_then told (held new.core.mem) b.cost (step p (left_of mid - b.cost) b.state) b.stops);
          one = λ e is. absurd (omega (arith, e));
          none = λ e. absurd (omega (arith, e));
        }

-- ---- what is counted

limited_fits : (left : ℕ) (r : Row) → (limited left r).cost ≤ left
limited_fits left r = elim (cases_Bool (r.cost == 0)) [
  | inl free ↦ (let e : r.cost ≡ 0 = eqb-true r.cost 0 free in rw free (omega (arith, e)))
  | inr costs ↦ elim (cases_Bool (left == 0)) [
    | inl spent ↦ rw (costs, spent) (omega arith)
    | inr some ↦ elim (cases_Bool (nat_lt left r.cost)) [
      | inl less ↦ rw (costs, some, less) (omega arith)
      | inr enough ↦ (let le : r.cost ≤ left = ltb-false left r.cost enough in rw (costs, some, enough) le)
    ]
  ]
]

module _ {M : Type 0} (byte : M → ℕ → ℕ) (held : M → ℕ → Bool) (p : Program) (old new : Machine M) (before after : Env) (more : List ℕ) (s : State) (only : ℕ) where
  counted_by : (told : Burst) (h : ℕ → Bool) (cost : ℕ) (t : State) → cost ≤ left_of old → Pauses h told cost (step p (left_of old - cost) t) old new after → (count_of old ≤ count_of new) × (count_of new ≤ count_of old + left_of old)
  counted_by burst.Stepped h cost t most x = (omega (arith, x.0.0), omega (arith, x.0.0, most))
  counted_by burst.Room h cost t most x = (omega (arith, x.0), omega (arith, x.0, most))
  counted_by (burst.WantPage page) h cost t most x = (omega (arith, x.0.0), omega (arith, x.0.0, most))
  counted_by burst.WantInput h cost t most x = (omega (arith, x.0.0), omega (arith, x.0.0, most))
  counted_by (burst.Ended e) h cost t most x =
      let fits : (step p (left_of old - cost) t).cost ≤ left_of old - cost = limited_fits (left_of old - cost) (row p t) in
      (omega (arith, x.2), omega (arith, x.2, most, fits))
  counted_by burst.Stuck h cost t most x = (omega (arith, x.0.0), omega (arith, x.0.0, most))
  counted_by burst.NoMemory h cost t most x = (omega (arith, x.0), omega (arith, x.0, most))

  -- what a burst counts fits what is left
  pub counts_on : (told : Burst) → HasBurst byte held p only told old new before after more s → (count_of old ≤ count_of new) × (count_of new ≤ count_of old + left_of old)
  counts_on told b = counted_by told (held new.core.mem) b.cost b.state b.afforded b.stops

  -- one that goes on counts something
  pub counts_more : (told : Burst) → told ≡ burst.Stepped → HasBurst byte held p only told old new before after more s → count_of old < count_of new
  counts_more told is b =
      let x : Pauses (held new.core.mem) burst.Stepped b.cost (step p (left_of old - b.cost) b.state) old new after = subst (λ (t : Burst). Pauses (held new.core.mem) t b.cost (step p (left_of old - b.cost) b.state) old new after) is b.stops in
      omega (arith, x.0.0, x.1)

  goes_stepped : (told : Burst) → told ≡ burst.Stepped → (b : HasBurst byte held p only told old new before after more s) → GoesOn b.cost old new
  goes_stepped told is b = (subst (λ (t : Burst). Pauses (held new.core.mem) t b.cost (step p (left_of old - b.cost) b.state) old new after) is b.stops).0

  goes_room : (told : Burst) → told ≡ burst.Room → (b : HasBurst byte held p only told old new before after more s) → GoesOn b.cost old new
  goes_room told is b = subst (λ (t : Burst). Pauses (held new.core.mem) t b.cost (step p (left_of old - b.cost) b.state) old new after) is b.stops

-- ---- as a machine runs

-- the machine stands for a state
pub stands_for : {M : Type 0} (byte : M → ℕ → ℕ) (held : M → ℕ → Bool) (regions : M → Regions) (a : Accepted) (first mid : Machine M) (begin between : Env) → Stays regions held first mid
    → ((more : List ℕ) (s : State) → IsAt byte held (program_of regions a first) first begin more s → HasGone byte held (program_of regions a first) first mid begin between more s)
    → ((s : State) × (more : List ℕ) × IsAt byte held (program_of regions a first) first begin more s) → (s : State) × (more : List ℕ) × IsAt byte held (program_of regions a mid) mid between more s
stands_for byte held regions a first mid begin between stays gone at =
    let g = gone at.1 at.0 at.2 in
    (g.state, at.1, subst (λ (x : Program). IsAt byte held x mid between at.1 g.state) (sym (stays.same_program a)) g.at)

-- a burst counts something, or slots are added
pub count_less : (b c c' l l' : ℕ) → c < c' → c' ≤ b → l < 2 ^ 64 → (b - c') * 2 ^ 64 + (2 ^ 64 - l') < (b - c) * 2 ^ 64 + (2 ^ 64 - l)
count_less b c c' l l' more most small = omega (arith, more, most, small)

pub room_less : (b c c' l l' : ℕ) → c ≤ c' → c' ≤ b → l < l' → l < 2 ^ 64 → (b - c') * 2 ^ 64 + (2 ^ 64 - l') < (b - c) * 2 ^ 64 + (2 ^ 64 - l)
room_less b c c' l l' on most wider small = omega (arith, on, most, wider, small)

-- a burst behind others of a machine
module _ {M : Type 0} (byte : M → ℕ → ℕ) (held : M → ℕ → Bool) (regions : M → Regions) (a : Accepted) (first mid new : Machine M) (begin between after : Env) (told : Burst) (stays : Stays regions held first mid) (most : count_of mid ≤ budget_of mid)
    (gone : (more : List ℕ) (s : State) → IsAt byte held (program_of regions a first) first begin more s → HasGone byte held (program_of regions a first) first mid begin between more s) where
  abbrev p : Program
  p = program_of regions a first

  abbrev q : Program
  q = program_of regions a mid

  module _ (only : ℕ) (did : (more : List ℕ) (s : State) → IsAt byte held q mid between more s → HasBurst byte held q only told mid new between after more s) (same : after.ended ≡ between.ended) where
    whole : (more : List ℕ) (s : State) → IsAt byte held p first begin more s → HasBurst byte held p 0 told first new begin after more s
    whole more s from =
        let g = gone more s from in
        burst_then byte held p first mid new begin between after more s g stays.budget stays.same_pages most only told
        (subst (λ (x : Program). (n : List ℕ) (t : State) → IsAt byte held x mid between n t → HasBurst byte held x only told mid new between after n t) (stays.same_program a) did more g.state g.at)

    same_all : (more : List ℕ) (s : State) → IsAt byte held p first begin more s → after.ended ≡ begin.ended
    same_all more s from = same ∙ (gone more s from).same_end

    pub other_ran : told ≢ burst.Stepped → told ≢ burst.Room → (limit : ℕ) (more : List ℕ) (s : State) → IsAt byte held p first begin more s → HasRun byte held p limit (answer_of told) first new begin after more s
    other_ran one other limit more s from = ran_by byte held p first new begin after more s (same_all more s from) 0 limit told one other (whole more s from)

    pub gone_on : told ≡ burst.Stepped → (more : List ℕ) (s : State) → IsAt byte held p first begin more s → HasGone byte held p first new begin after more s
    gone_on is more s from = (let b = whole more s from in gone_by byte held p first new begin after more s 0 told b (goes_stepped byte held p first new begin after more s 0 told is b) (same_all more s from))

    pub gone_room : told ≡ burst.Room → (more : List ℕ) (s : State) → IsAt byte held p first begin more s → HasGone byte held p first new begin after more s
    gone_room is more s from = (let b = whole more s from in gone_by byte held p first new begin after more s 0 told b (goes_room byte held p first new begin after more s 0 told is b) (same_all more s from))

    -- what it counts
    module _ (at : (s : State) × (more : List ℕ) × IsAt byte held p first begin more s) where
      abbrev there : (s : State) × (more : List ℕ) × IsAt byte held q mid between more s
      there = stands_for byte held regions a first mid begin between stays gone at

      pub counted_up : count_of mid ≤ count_of new
      counted_up = (counts_on byte held q mid new between after there.1 there.0 only told (did there.1 there.0 there.2)).0

      pub counted_fits : budget_of new ≡ budget_of mid → count_of new ≤ budget_of new
      counted_fits e = (let c = counts_on byte held q mid new between after there.1 there.0 only told (did there.1 there.0 there.2) in omega (arith, c.1, most, e))

      pub counted_more : told ≡ burst.Stepped → count_of mid < count_of new
      counted_more is = counts_more byte held q mid new between after there.1 there.0 only told is (did there.1 there.0 there.2)

-- slots were added behind it
pub gone_widened : {M : Type 0} (byte : M → ℕ → ℕ) (held : M → ℕ → Bool) (p : Program) (first mid new : Machine M) (begin after : Env) → new ≡ record mid { core = new.core } → Grows mid.core new.core
    → ((more : List ℕ) (s : State) → IsAt byte held p first begin more s → HasGone byte held p first mid begin after more s) → (more : List ℕ) (s : State) → IsAt byte held p first begin more s → HasGone byte held p first new begin after more s
gone_widened byte held p first mid new begin after is grows gone more s from = gone_wider byte held p first mid new begin after more s (gone more s from) is grows

-- a page that is wanted has a byte in a region
pub wanted_inside : {M : Type 0} (byte : M → ℕ → ℕ) (held : M → ℕ → Bool) (p : Program) (limit : ℕ) (told : StepAnswer) (page : ℕ) (old new : Machine M) (before after : Env) (more : List ℕ) (s : State) → AreLive new.core.heap → HasRun byte held p limit told old new before after more s → told ≡ answer.WantPage page → IsPage p.regions page
wanted_inside byte held p limit told page old new before after more s live ran is =
    let wants : Stops byte held limit p s ran.bytes ran.cost ran.state (step p (left_of old - ran.cost) ran.state) more (answer.WantPage page) old new before after =
    subst (λ (x : StepAnswer). Stops byte held limit p s ran.bytes ran.cost ran.state (step p (left_of old - ran.cost) ran.state) more x old new before after) is ran.stops in
    needs_pages p (left_of old - ran.cost) ran.state page (subst AreLive (sym wants.0.0.blocks) live) wants.1.touched
