-- One instruction of a machine.
use Rattle.std.proofs.Common.{◌≡◌, ◌≢◌, inl, inr, ℕ, ◌+◌, ◌-◌, ◌≤◌, ◌<◌, ◌^◌, Bool, List, [], ◌++◌, append-nil, None, refl, sym, ap, subst, ◌∙◌, arith}
use Rattle.no_heap.specs.Blocks.{AreLive}
use Rattle.no_ir.specs.declared.ending.End.{End}
use Rattle.no_layout.specs.Memory.{IsPage}
use Rattle.no_layout.specs.declared.memory.Regions.{Regions}
use Rattle.no_lib.specs.declared.env.Env.{Env}
use Rattle.no_semantics.specs.Accepted.{Accepted}
use Rattle.no_semantics.specs.Acting.{row, step}
use Rattle.no_semantics.specs.Rows.{Row, needed}
use Rattle.no_semantics.specs.Runs as runs
use Rattle.no_semantics.specs.Spans.{AreHeld}
use Rattle.no_semantics.specs.States.{HasNoMarks, State}
use Rattle.no_semantics.specs.Values.{Program}
use Rattle.no_semantics.proofs.Running.{affords}
use Rattle.no_machine.specs.Beginning.{Grows}
use Rattle.no_machine.specs.Burst.{HasBurst, Pauses, answer_of}
use Rattle.no_machine.specs.Each.{HasPages}
use Rattle.no_machine.specs.Ran.{GoesOn, HasStepped, IsAt, IsThere, Stays, Stops, Takes, budget_of, count_of, end_of, left_of, memory_of, program_of}
use Rattle.no_machine.specs.declared.burst.Burst.{Burst}
use Rattle.no_machine.specs.declared.burst.Burst.TheVariants as burst
use Rattle.no_machine.specs.declared.machine.Machine.{Machine}
use Rattle.no_machine.specs.declared.machine.StepAnswer.{StepAnswer}
use Rattle.no_machine.specs.declared.machine.StepAnswer.TheVariants as answer
use Rattle.no_machine.specs.declared.state.Core.{Core}
use Rattle.no_machine.proofs.Counting.{paid_all}
use Rattle.no_machine.proofs.Each.{IsSingle, each_nowhere, each_single, each_zero}
use Rattle.no_machine.proofs.Needing.{needs_pages}
use Rattle.no_machine.proofs.Slicing.{IsFinish, counts_on, finish_of}
use Rattle.no_machine.proofs.Widening.{here_wider}

-- slots were added
pub slots_less : (l l' : ℕ) → l < l' → l < 2 ^ 64 → 2 ^ 64 - l' < 2 ^ 64 - l
slots_less l l' wider small = omega (arith, wider, small)

module _ {M : Type 0} (byte : M → ℕ → ℕ) (held : M → ℕ → Bool) (p : Program) where
  -- nothing was done, and the machine stands for the same state
  pub record HasKept (old new : Machine M) (before after : Env) (more : List ℕ) (s : State) : Type 0 where
    pub at : IsAt byte held p new after more s
    pub counted : count_of new ≡ count_of old
    pub running : end_of new ≡ None
    pub wrote : after.output.items ≡ before.output.items
    pub same_end : after.ended ≡ before.ended

  pub kept_first : (m : Machine M) (env : Env) (more : List ℕ) (s : State) → end_of m ≡ None → IsAt byte held p m env more s → HasKept m m env env more s
  kept_first m env more s running from = record { at = from; counted = refl; running = running; wrote = refl; same_end = refl }

  -- slots were added
  pub kept_wider : (old mid new : Machine M) (before after : Env) (more : List ℕ) (s : State) → HasKept old mid before after more s → new ≡ record mid { core = new.core } → Grows mid.core new.core → HasKept old new before after more s
  kept_wider old mid new before after more s kept is grows = record {
    at = record {
      here = here_wider p byte held mid.core new.core grows s kept.at.here;
      blocks = kept.at.blocks ∙ sym (ap (λ (c : Core M). c.heap) grows.same);
      rest = kept.at.rest;
      last = kept.at.last;
    };
    counted = ap (λ (m : Machine M). m.count) is ∙ kept.counted;
    running = ap (λ (m : Machine M). m.end) is ∙ kept.running;
    wrote = kept.wrote;
    same_end = kept.same_end;
  }

  -- there was no memory for slots
  pub kept_lacks : (old new : Machine M) (before after : Env) (more : List ℕ) (s : State) (row : Row) → HasKept old new before after more s → Takes byte held p s row more answer.NoMemory old new before after
  kept_lacks old new before after more s row kept = ((kept.at, kept.wrote ∙ sym (append-nil before.output.items)), (omega (arith, kept.counted), kept.running))

  -- ---- a burst of no more than one

  module _ (paid : (s : State) → 1 ≤ (row p s).cost) (old mid new : Machine M) (before between after : Env) (more : List ℕ) (s : State) (kept : HasKept old mid before between more s) (same_budget : budget_of mid ≡ budget_of old) (pages : held (memory_of mid) ≡ held (memory_of old)) (same : after.ended ≡ between.ended) where
    left_is : left_of mid - 0 ≡ left_of old
    left_is = omega (arith, kept.counted, same_budget)

    -- no step goes on before another answer
    record IsNone (told : Burst) : Type 0 where
      pub at : IsAt byte held p new after more s
      pub wrote : after.output.items ≡ between.output.items
      pub stops : Pauses (held new.core.mem) told 0 (step p (left_of old) s) mid new after

    none_of : (told : Burst) → told ≢ burst.Stepped → HasBurst byte held p 1 told mid new between after more s → IsNone told
    none_of told other b =
        let free : b.cost ≡ 0 = elim (b.none refl) [
          | inl is ↦ absurd (other is)
          | inr is ↦ is
        ] in
        let nowhere = each_nowhere (HasPages (held (memory_of mid))) p s b.state b.bytes b.cost b.steps (each_zero (HasPages (held (memory_of mid))) p paid s b.state b.bytes b.cost b.steps free) in
        let one = subst (λ (k : ℕ). Pauses (held new.core.mem) told k (step p (left_of mid - k) b.state) mid new after) free b.stops in
        let two = subst (λ (t : State). Pauses (held new.core.mem) told 0 (step p (left_of mid - 0) t) mid new after) nowhere.1 one in
        record {
          at = subst (IsAt byte held p new after more) nowhere.1 b.at;
          wrote = b.wrote ∙ ap (λ (o : List ℕ). between.output.items ++ o) nowhere.0 ∙ append-nil between.output.items;
          stops = subst (λ (k : ℕ). Pauses (held new.core.mem) told 0 (step p k s) mid new after) left_is two;
        }

    there_of : (told : Burst) → IsNone told → IsThere byte held p [] s more new before after
    there_of told n = (n.at, n.wrote ∙ kept.wrote ∙ sym (append-nil before.output.items))

    goes_of : GoesOn 0 mid new → GoesOn 0 old new
    goes_of goes = (omega (arith, goes.0, kept.counted), goes.1)

    -- too few slots
    pub kept_room : HasBurst byte held p 1 burst.Room mid new between after more s → HasKept old new before after more s
    kept_room b =
        let n = none_of burst.Room (λ e. absurd cc) b in
        record { at = n.at; counted = omega (arith, n.stops.0, kept.counted); running = n.stops.1; wrote = n.wrote ∙ kept.wrote; same_end = same ∙ kept.same_end }

    abbrev this : Row
    this = step p (left_of old) s

    ended_takes : (e : End) → IsNone (burst.Ended e) → Takes byte held p s this more (answer.Ended e) old new before after
    ended_takes e n =
        let f : IsFinish this.next e = finish_of this.next e n.stops.0 in
        let last : runs.Runs p (left_of old) s (runs.finished this.cost f.finish s) = (1, f.is this.cost s (runs.within p 0 (left_of old - this.cost))) in
        let sum : this.cost ≡ 0 + this.cost = omega arith in (
          there_of (burst.Ended e) n,
          record {
            finish = f.finish;
            ends = f.ends;
            runs = subst (λ (k : ℕ). runs.Runs p (left_of old) s (record { output = []; count = k; finish = f.finish; state = s })) sum last;
            counted = omega (arith, n.stops.2, kept.counted);
            ended = n.stops.3;
          },
          n.stops.1,
        )

    stepped_takes : HasBurst byte held p 1 burst.Stepped mid new between after more s → HasStepped byte held p this old new before after more
    stepped_takes b =
        let single : IsSingle (HasPages (held (memory_of mid))) p s b.bytes b.cost b.state = each_single (HasPages (held (memory_of mid))) p s b.state b.bytes b.cost b.steps (b.one refl refl) in
        let left : left_of mid ≡ left_of old = omega (arith, kept.counted, same_budget) in
        let most : (row p s).cost ≤ left_of old = omega (arith, b.afforded, single.cost, left) in
        let is : this ≡ row p s = affords (left_of old) (row p s) most in
        let count : new.count ≡ mid.count + b.cost = b.stops.0.0 in
        record {
          output = b.bytes;
          call = single.call;
          state = b.state;
          next = ap (λ (r : Row). r.next) is ∙ single.next;
          there = (b.at, b.wrote ∙ ap (λ (o : List ℕ). o ++ b.bytes) kept.wrote);
          present = subst (λ (h : ℕ → Bool). AreHeld h (needed this)) pages (subst (λ (r : Row). AreHeld (held (memory_of mid)) (needed r)) (sym is) single.holds);
          goes_on = (omega (arith, count, kept.counted, single.cost, ap (λ (r : Row). r.cost) is), b.stops.0.1);
        }

    -- what came of it, by its answer
    pub kept_takes : (told : Burst) → told ≢ burst.Room → HasBurst byte held p 1 told mid new between after more s → Takes byte held p s this more (answer_of told) old new before after
    kept_takes burst.Stepped other b = stepped_takes b
    kept_takes burst.Room other b = absurd (other refl)
    kept_takes (burst.WantPage page) other b = (let n = none_of (burst.WantPage page) (λ e. absurd cc) b in (there_of (burst.WantPage page) n, n.stops.1, goes_of n.stops.0))
    kept_takes burst.WantInput other b = (let n = none_of burst.WantInput (λ e. absurd cc) b in (there_of burst.WantInput n, n.stops.1, n.stops.2, n.stops.3, goes_of n.stops.0))
    kept_takes (burst.Ended e) other b = ended_takes e (none_of (burst.Ended e) (λ z. absurd cc) b)
    kept_takes burst.Stuck other b = (let n = none_of burst.Stuck (λ e. absurd cc) b in n.stops.1)
    kept_takes burst.NoMemory other b = (let n = none_of burst.NoMemory (λ e. absurd cc) b in (there_of burst.NoMemory n, goes_of n.stops))

-- ---- as a machine runs

module _ {M : Type 0} (byte : M → ℕ → ℕ) (held : M → ℕ → Bool) (regions : M → Regions) (a : Accepted) (marks : HasNoMarks a.«module») (first mid new : Machine M) (begin between after : Env) (told : Burst) (stays : Stays regions held first mid)
    (kept : (more : List ℕ) (s : State) → IsAt byte held (program_of regions a first) first begin more s → HasKept byte held (program_of regions a first) first mid begin between more s)
    (did : (more : List ℕ) (s : State) → IsAt byte held (program_of regions a mid) mid between more s → HasBurst byte held (program_of regions a mid) 1 told mid new between after more s) (same : after.ended ≡ between.ended) where
  abbrev p : Program
  p = program_of regions a first

  burst_at : (more : List ℕ) (s : State) → IsAt byte held p first begin more s → HasBurst byte held p 1 told mid new between after more s
  burst_at more s from =
      subst (λ (x : Program). (n : List ℕ) (t : State) → IsAt byte held x mid between n t → HasBurst byte held x 1 told mid new between after n t) (stays.same_program a) did more s (kept more s from).at

  pub row_takes : told ≢ burst.Room → (more : List ℕ) (s : State) → IsAt byte held p first begin more s → Takes byte held p s (step p (left_of first) s) more (answer_of told) first new begin after
  row_takes other more s from = kept_takes byte held p (paid_all p marks) first mid new begin between after more s (kept more s from) stays.budget stays.same_pages same told other (burst_at more s from)

  pub row_kept : told ≡ burst.Room → (more : List ℕ) (s : State) → IsAt byte held p first begin more s → HasKept byte held p first new begin after more s
  row_kept is more s from =
      kept_room byte held p (paid_all p marks) first mid new begin between after more s (kept more s from) stays.budget stays.same_pages same
      (subst (λ (t : Burst). HasBurst byte held p 1 t mid new between after more s) is (burst_at more s from))

  -- what is counted of it fits what is left
  pub row_counts : ((s : State) × (more : List ℕ) × IsAt byte held p first begin more s) → (count_of mid ≤ count_of new) × (count_of new ≤ count_of mid + left_of mid)
  row_counts at = counts_on byte held p mid new between after at.1 at.0 1 told (burst_at at.1 at.0 at.2)

-- the machine stands for a state
pub kept_for : {M : Type 0} (byte : M → ℕ → ℕ) (held : M → ℕ → Bool) (regions : M → Regions) (a : Accepted) (first mid : Machine M) (begin between : Env) → Stays regions held first mid
    → ((more : List ℕ) (s : State) → IsAt byte held (program_of regions a first) first begin more s → HasKept byte held (program_of regions a first) first mid begin between more s)
    → ((s : State) × (more : List ℕ) × IsAt byte held (program_of regions a first) first begin more s) → (s : State) × (more : List ℕ) × IsAt byte held (program_of regions a mid) mid between more s
kept_for byte held regions a first mid begin between stays kept at = (at.0, at.1, subst (λ (x : Program). IsAt byte held x mid between at.1 at.0) (sym (stays.same_program a)) (kept at.1 at.0 at.2).at)

-- a page that is wanted has a byte in a region
pub step_inside : {M : Type 0} (byte : M → ℕ → ℕ) (held : M → ℕ → Bool) (p : Program) (told : StepAnswer) (page : ℕ) (old new : Machine M) (before after : Env) (more : List ℕ) (s : State) → AreLive new.core.heap → Takes byte held p s (step p (left_of old) s) more told old new before after → told ≡ answer.WantPage page → IsPage p.regions page
step_inside byte held p told page old new before after more s live takes is =
    let wants : Stops byte held 1 p s [] 0 s (step p (left_of old) s) more (answer.WantPage page) old new before after =
    subst (λ (x : StepAnswer). Takes byte held p s (step p (left_of old) s) more x old new before after) is takes in
    needs_pages p (left_of old) s page (subst AreLive (sym wants.0.0.blocks) live) wants.1.touched
