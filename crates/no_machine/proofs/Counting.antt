-- A burst of a run: turns inside, and what comes behind them.
use Rattle.std.proofs.Common.{◌≡◌, ◌≢◌, ◌⊎◌, inl, inr, ℕ, ◌+◌, ◌-◌, ◌≤◌, ◌<◌, ◌==◌, nat_lt, if◌then◌else◌, Bool, true, false, eqb-true, true≢false, ◌%◌, List, [], ◌++◌, append-nil, Some, None, refl, sym, ap, subst, ◌∙◌, arith}
use Rattle.std.proofs.lemmas.Bool.{le-ltb}
use Rattle.no_ir.specs.declared.ending.End.{End}
use Rattle.no_ir.specs.declared.ending.End.TheVariants as end
use Rattle.no_layout.specs.Memory.{Agrees}
use Rattle.no_lib.specs.declared.env.Env.{Env}
use Rattle.no_layout.specs.declared.memory.Regions.{Regions}
use Rattle.no_semantics.specs.Accepted.{Accepted}
use Rattle.no_semantics.specs.Acting.{row, step}
use Rattle.no_semantics.specs.Rows.{Row, Next, Goes, Ends, Leaves, Stuck, affordable, limited, needed, plain, trapping, unfinished}
use Rattle.no_semantics.specs.Spans.{AreHeld, IsLowestAbsent}
use Rattle.no_semantics.specs.States.{HasNoMarks, State}
use Rattle.no_semantics.specs.Values.{Program}
use Rattle.no_semantics.proofs.Running.{affords, no_step, went}
use Rattle.no_semantics.specs.Rows.{EndsSo, HasNoMeaning}
use Rattle.no_machine.specs.Outside.{Around, HasWent, IsCalmly, Outs, Placed}
use Rattle.no_machine.specs.Burst.{HasBurst, Pauses, cost_by, cost_of, end_by, told_by, told_of}
use Rattle.no_machine.specs.Ran.{IsAt, left_of, program_of}
use Rattle.no_machine.specs.Standing.{Stands}
use Rattle.no_machine.specs.Turning.{IsHere, program_with}
use Rattle.no_machine.specs.Each.{HasPages, StepsEach}
use Rattle.no_machine.specs.Spun.{Halted, HasSpun}
use Rattle.no_machine.specs.declared.frame.Saved.{Saved}
use Rattle.no_machine.specs.declared.machine.Machine.{Machine}
use Rattle.no_machine.specs.declared.burst.Burst.{Burst}
use Rattle.no_machine.specs.declared.burst.Burst.TheVariants as burst
use Rattle.no_machine.specs.declared.out.Out.{Out}
use Rattle.no_machine.specs.declared.out.Out.TheVariants as out
use Rattle.no_machine.specs.declared.turn.Stop.{Stop}
use Rattle.no_machine.specs.declared.turn.Stop.TheVariants as stop
use Rattle.no_machine.proofs.Each.{each_compose, each_first, each_none, each_number, each_costs, each_zero, steps_of}
use Rattle.no_machine.proofs.Paying.{limited_none, row_costs}
use Rattle.no_machine.proofs.Spinning.{never_after}

-- ---- rows within what is left

limited_as : (left : ℕ) (r : Row) (free none : Bool) → (r.cost == 0) ≡ free → (left == 0) ≡ none → 1 ≤ left → limited left r ≡ affordable left r
limited_as left r true none e f some =
    let low : r.cost ≤ left = omega (arith, eqb-true r.cost 0 e) in
    affords left r low ∙ sym (ap (λ (b : Bool). if b then unfinished r.sought else r) (le-ltb left r.cost low))
limited_as left r false true e f some = absurd (omega (arith, eqb-true left 0 f, some))
limited_as left r false false e f some =
    ap (λ (b : Bool). if b then r else (if left == 0 then unfinished [] else affordable left r)) e
    ∙ ap (λ (b : Bool). if b then unfinished [] else affordable left r) f

-- with something left, only what a row costs limits it
limited_is : (left : ℕ) (r : Row) → 1 ≤ left → limited left r ≡ affordable left r
limited_is left r some = limited_as left r (r.cost == 0) (left == 0) refl refl some

is_stuck : Next → Bool
is_stuck Stuck = true
is_stuck (Goes bytes call t) = false
is_stuck (Leaves v) = false
is_stuck (Ends e) = false

stuck_as : (n : Next) → is_stuck n ≡ true → n ≡ Stuck
unfolding is_stuck
stuck_as Stuck e = refl
stuck_as (Goes bytes call t) e = absurd (true≢false (sym e))
stuck_as (Leaves v) e = absurd (true≢false (sym e))
stuck_as (Ends v) e = absurd (true≢false (sym e))

stuck_whole : (left : ℕ) (r : Row) (b : Bool) → nat_lt left r.cost ≡ b → is_stuck (affordable left r).next ≡ true → r.next ≡ Stuck
unfolding is_stuck
stuck_whole left r true e f = absurd (true≢false (sym f ∙ ap (λ (b : Bool). is_stuck (if b then unfinished r.sought else r).next) e))
stuck_whole left r false e f = stuck_as r.next (sym (ap (λ (b : Bool). is_stuck (if b then unfinished r.sought else r).next) e) ∙ f)

stuck_row : (left : ℕ) (r : Row) → (affordable left r).next ≡ Stuck → r.next ≡ Stuck
unfolding is_stuck
stuck_row left r e = stuck_whole left r (nat_lt left r.cost) refl (ap is_stuck e)

ends_so : (n : Next) (e : End) → n ≡ Ends e → EndsSo n e
ends_so n e same = subst (λ (x : Next). EndsSo x e) (sym same) refl

-- each instruction of a module without marks costs something
pub paid_all : (p : Program) → HasNoMarks p.«module» → (s : State) → 1 ≤ (row p s).cost
paid_all p marks s = row_costs p s (λ i is. marks s.frame.function s.frame.block s.frame.at i is)

-- ---- turns inside, and no call behind them

abbrev Below : Stop → ℕ → ℕ → ℕ → Type 0
Below stop.Spent done most left = (0 < done) × (done ≤ most)
Below _ done most left = (done < left) × (done < most)

pub below : (why : Stop) (done most left : ℕ) → (why ≡ stop.Spent → (0 < done) × (done ≤ most)) → (why ≡ stop.Spent) ⊎ ((done < left) × (done < most)) → Below why done most left
below why done most left all (inl e) = subst (λ (w : Stop). Below w done most left) (sym e) (all e)
below stop.Spent done most left all (inr some) = all refl
below stop.Grow done most left all (inr some) = some
below stop.NoMemory done most left all (inr some) = some
below stop.Outside done most left all (inr some) = some
below (stop.WantPage page) done most left all (inr some) = some
below (stop.Trapped trap) done most left all (inr some) = some
below (stop.Left v) done most left all (inr some) = some

-- where no more than one was to be done, one was, or none
none_done : (why : Stop) (done most left : ℕ) → Below why done most left → most ≡ 1 → (told_of why ≡ burst.Stepped) ⊎ (done ≡ 0)
none_done stop.Spent done most left some one = inl refl
none_done stop.Grow done most left some one = inr (omega (arith, some.1, one))
none_done stop.NoMemory done most left some one = inr (omega (arith, some.1, one))
none_done stop.Outside done most left some one = inr (omega (arith, some.1, one))
none_done (stop.WantPage page) done most left some one = inr (omega (arith, some.1, one))
none_done (stop.Trapped trap) done most left some one = inr (omega (arith, some.1, one))
none_done (stop.Left v) done most left some one = inr (omega (arith, some.1, one))

one_done : (why : Stop) (done most left : ℕ) → Below why done most left → most ≡ 1 → told_of why ≡ burst.Stepped → done ≡ 1
one_done stop.Spent done most left some one e = omega (arith, some.0, some.1, one)
one_done stop.Grow done most left some one e = absurd cc
one_done stop.NoMemory done most left some one e = absurd cc
one_done stop.Outside done most left some one e = absurd cc
one_done (stop.WantPage page) done most left some one e = absurd cc
one_done (stop.Trapped trap) done most left some one e = absurd cc
one_done (stop.Left (Some n)) done most left some one e = absurd cc
one_done (stop.Left None) done most left some one e = absurd cc

module _ {M : Type 0} (byte : M → ℕ → ℕ) (held : M → ℕ → Bool) (p : Program) (old mid : Machine M) (done : ℕ) (low : done ≤ left_of old) (within : old.count ≤ old.budget) (counted : mid.count ≡ old.count + done) (env : Env) (more : List ℕ) (marks : HasNoMarks p.«module») (most : ℕ) where
  abbrev closed : Stop → Machine M
  closed why = record mid { count = mid.count + cost_of why; end = end_by (told_of why) }

  abbrev next : State → Row
  next t = step p (left_of old - done) t

  whole : (t : State) → (row p t).cost ≤ left_of old - done → next t ≡ row p t
  whole t le = affords (left_of old - done) (row p t) le

  nothing : (r : Row) → r.sought ≡ [] → AreHeld (held mid.core.mem) r.sought
  nothing r e = subst (AreHeld (held mid.core.mem)) (sym e) (λ page touches. absurd touches)

  halts : (why : Stop) (t : State) → Below why done most (left_of old) → Halted p why (held mid.core.mem) t → Pauses (held mid.core.mem) (told_of why) done (next t) old (closed why) env
  halts stop.Spent t some h = ((omega (arith, counted), refl), some.0)
  halts stop.Grow t some h = (omega (arith, counted), refl)
  halts stop.NoMemory t some h = (omega (arith, counted), refl)
  halts stop.Outside t some h = (omega (arith, counted), refl)
  halts (stop.WantPage page) t some h =
      ((omega (arith, counted), refl), subst (λ (r : Row). IsLowestAbsent (held mid.core.mem) (needed r) page) (sym (whole t (omega (arith, h.0, some.0)))) h.1)
  halts (stop.Trapped trap) t some h =
      let cost : (row p t).cost ≡ 1 = ap (λ (r : Row). r.cost) h in
      let is : next t ≡ trapping trap = whole t (omega (arith, cost, some.0)) ∙ h in
      (ends_so (next t).next (end.Trapped trap) (ap (λ (r : Row). r.next) is), nothing (next t) (ap (λ (r : Row). r.sought) is), omega (arith, counted, ap (λ (r : Row). r.cost) is), refl)
  halts (stop.Left (Some n)) t some h =
      let cost : (row p t).cost ≡ 1 = ap (λ (r : Row). r.cost) h in
      let is : next t ≡ plain (Leaves (Some n)) = whole t (omega (arith, cost, some.0)) ∙ h in
      (subst (λ (r : Row). EndsSo r.next (end.Exited (n % 256))) (sym is) refl, nothing (next t) (ap (λ (r : Row). r.sought) is), omega (arith, counted, ap (λ (r : Row). r.cost) is), refl)
  halts (stop.Left None) t some h =
      let cost : (row p t).cost ≡ 1 = ap (λ (r : Row). r.cost) h in
      let is : next t ≡ plain (Leaves None) = whole t (omega (arith, cost, some.0)) ∙ h in
      ((omega (arith, counted), refl), subst (λ (r : Row). HasNoMeaning r.next) (sym is) tt)

  module _ (same_held : held mid.core.mem ≡ held old.core.mem) (same_heap : mid.core.heap ≡ old.core.heap) (s : State) (from : IsAt byte held p old env more s) where
    -- what was told of turns inside, where no call is behind them
    pub told_run : (why : Stop) → Below why done most (left_of old) → HasSpun p why done mid.core.at mid.core.base mid.core.sp mid.core.slots.items mid.core.frames.items (held old.core.mem) (byte mid.core.mem) s
        → HasBurst byte held p most (told_of why) old (closed why) env env more s
    told_run why some spun = record {
      bytes = [];
      cost = done;
      state = spun.state;
      steps = spun.steps;
      afforded = low;
      wrote = sym (append-nil env.output.items);
      at = record {
        here = subst (λ (h : ℕ → Bool). IsHere p mid.core.at mid.core.base mid.core.sp mid.core.slots.items mid.core.frames.items h (byte mid.core.mem) spun.state) (sym same_held) spun.here;
        blocks = spun.heap ∙ from.blocks ∙ sym same_heap;
        rest = spun.input ∙ from.rest;
        last = from.last;
      };
      stops = halts why spun.state some (subst (λ (h : ℕ → Bool). Halted p why h spun.state) (sym same_held) spun.stopped);
      one = λ only e. each_first (HasPages (held old.core.mem)) p (paid_all p marks) s spun.state [] done spun.steps (one_done why done most (left_of old) some only e);
      none = λ only. none_done why done most (left_of old) some only;
    }

-- ---- a call behind them

-- what was counted of a call fits what was left
pub cost_fits : (p : Program) (what : Out) (at base sp : ℕ) (slots : List ℕ) (frames : List Saved) (a : Around) (more : List ℕ) (u : State) (left : ℕ) → 1 ≤ left → Outs p what at base sp slots frames a more u (affordable left (row p u)) → cost_by what ≤ left
cost_fits p (out.On to there cost) at base sp slots frames a more u left some t =
    let w = went left (row p u) t.output t.call t.state (ap (λ (r : Row). r.next) (limited_is left (row p u) some) ∙ t.next) in
    omega (arith, w.most, t.costs, ap (λ (r : Row). r.cost) (limited_is left (row p u) some), ap (λ (r : Row). r.cost) w.same)
cost_fits p (out.Exited status) at base sp slots frames a more u left some t = some
cost_fits p (out.Trapped trap) at base sp slots frames a more u left some t = some
cost_fits p out.Over at base sp slots frames a more u left some t = omega arith
cost_fits p out.Stuck at base sp slots frames a more u left some t = omega arith
cost_fits p (out.WantPage page) at base sp slots frames a more u left some t = omega arith
cost_fits p out.WantInput at base sp slots frames a more u left some t = omega arith
cost_fits p out.Grow at base sp slots frames a more u left some t = omega arith
cost_fits p out.NoMemory at base sp slots frames a more u left some t = omega arith

module _ {M : Type 0} (byte : M → ℕ → ℕ) (held : M → ℕ → Bool) (p : Program) (old mid last : Machine M) (done : ℕ) (some : done < left_of old) (within : old.count ≤ old.budget) (counted : last.count ≡ old.count + done) (before after : Env) (more : List ℕ) (marks : HasNoMarks p.«module») (most : ℕ) (few : done < most) where
  abbrev ended : Out → Machine M
  ended what = record last { count = last.count + cost_by what; end = end_by (told_by what) }

  abbrev left : ℕ
  left = left_of old - done

  abbrev around : Around
  around = record { held = held mid.core.mem; byte = byte mid.core.mem; after = byte last.core.mem; heap = mid.core.heap; heap_after = last.core.heap; env = before; env_after = after }

  limits : (u : State) → affordable left (row p u) ≡ step p left u
  limits u = sym (limited_is left (row p u) (omega (arith, some)))

  module _ (same_held : held mid.core.mem ≡ held old.core.mem) (still_held : held last.core.mem ≡ held mid.core.mem) (same_heap : mid.core.heap ≡ old.core.heap) (same_ended : after.ended ≡ before.ended) (s : State) (from : IsAt byte held p old before more s)
      (spun : HasSpun p stop.Outside done mid.core.at mid.core.base mid.core.sp mid.core.slots.items mid.core.frames.items (held old.core.mem) (byte mid.core.mem) s) where
    abbrev u : State
    u = spun.state

    no_more : after.ended ≡ true → more ≡ []
    no_more e = from.last (sym same_ended ∙ e)

    present : AreHeld (held mid.core.mem) (affordable left (row p u)).sought → AreHeld (held last.core.mem) (step p left u).sought
    present all = subst (λ (h : ℕ → Bool). AreHeld h (step p left u).sought) (sym still_held) (subst (λ (r : Row). AreHeld (held mid.core.mem) r.sought) (limits u) all)

    -- the call was not done, and the machine stands where it stood
    calm_run : (what : Out) → last.core.at ≡ mid.core.at → last.core.base ≡ mid.core.base → IsCalmly p mid.core.at mid.core.base last.core.sp last.core.slots.items last.core.frames.items around u
        → (told_by what ≢ burst.Stepped) → Pauses (held last.core.mem) (told_by what) done (step p left u) old (ended what) after → HasBurst byte held p most (told_by what) old (ended what) before after more s
    calm_run what same_at same_base calmly other stops = record {
      bytes = [];
      cost = done;
      state = u;
      steps = spun.steps;
      afforded = omega (arith, some);
      wrote = calmly.calm.wrote ∙ sym (append-nil before.output.items);
      at = record {
        here = record {
          stands = subst (λ (k : ℕ). Stands p k last.core.base last.core.sp last.core.slots.items last.core.frames.items u) (sym same_at) (subst (λ (k : ℕ). Stands p mid.core.at k last.core.sp last.core.slots.items last.core.frames.items u) (sym same_base) calmly.stands);
          agrees = subst (λ (h : ℕ → Bool). Agrees h (byte last.core.mem) u.byte) (sym (still_held ∙ same_held)) (subst (λ (f : ℕ → ℕ). Agrees (held old.core.mem) f u.byte) (sym calmly.calm.bytes) spun.here.agrees);
          never = spun.here.never;
        };
        blocks = spun.heap ∙ from.blocks ∙ sym same_heap ∙ sym calmly.calm.blocks;
        rest = spun.input ∙ from.rest ∙ ap (λ (l : List ℕ). l ++ more) (sym calmly.calm.rest);
        last = no_more;
      };
      stops = stops;
      one = λ only e. absurd (other e);
      none = λ only. inr (omega (arith, few, only));
    }

    went_run : (to there cost : ℕ) → last.core.at ≡ to → last.core.base ≡ there → HasWent p to there cost last.core.sp last.core.slots.items last.core.frames.items around more (affordable left (row p u)) → HasBurst byte held p most (told_by (out.On to there cost)) old (ended (out.On to there cost)) before after more s
    went_run to there cost same_at same_base t =
        let w = went left (row p u) t.output t.call t.state (ap (λ (r : Row). r.next) (sym (limits u)) ∙ t.next) in
        let is : affordable left (row p u) ≡ row p u = limits u ∙ w.same in
        let costs : (row p u).cost ≡ cost = ap (λ (r : Row). r.cost) (sym is) ∙ t.costs in
        let paid : 1 ≤ (row p u).cost = paid_all p marks u in
        let pages : AreHeld (held old.core.mem) (needed (row p u)) = subst (λ (h : ℕ → Bool). AreHeld h (needed (row p u))) same_held (subst (λ (r : Row). AreHeld (held mid.core.mem) (needed r)) is t.present) in
        let next : (row p u).next ≡ Goes t.output t.call t.state = ap (λ (r : Row). r.next) (sym is) ∙ t.next in
        let first = each_costs (HasPages (held old.core.mem)) p u t.state t.output t.call cost next costs pages in
        let step_is : StepsEach (HasPages (held old.core.mem)) p u t.output cost t.state = first.0 in
        record {
          bytes = t.output;
          cost = done + cost;
          state = t.state;
          steps = each_compose (HasPages (held old.core.mem)) p s u t.state [] t.output done cost spun.steps step_is;
          afforded = omega (arith, w.most, costs, some);
          wrote = t.wrote;
          at = record {
            here = record {
              stands = subst (λ (k : ℕ). Stands p k last.core.base last.core.sp last.core.slots.items last.core.frames.items t.state) (sym same_at) (subst (λ (k : ℕ). Stands p to k last.core.sp last.core.slots.items last.core.frames.items t.state) (sym same_base) t.stands);
              agrees = subst (λ (h : ℕ → Bool). Agrees h (byte last.core.mem) t.state.byte) (sym still_held) t.agrees;
              never = never_after p u t.state t.output cost spun.here.never (steps_of (HasPages (held old.core.mem)) p u t.output cost t.state step_is);
            };
            blocks = t.blocks;
            rest = t.rest;
            last = no_more;
          };
          stops = ((omega (arith, counted), refl), omega (arith, paid, costs));
          one = λ only e.
              let zero' : spun.steps.number ≡ 0 = each_zero (HasPages (held old.core.mem)) p (paid_all p marks) s u [] done spun.steps (omega (arith, few, only)) in
              omega (arith, each_number (HasPages (held old.core.mem)) p s u t.state [] t.output done cost spun.steps step_is, zero', first.1);
          none = λ only. inl refl;
        }

    -- what was told of a call behind turns inside
    pub called_run : (what : Out) → Placed what mid.core.at mid.core.base last.core.at last.core.base → Outs p what mid.core.at mid.core.base last.core.sp last.core.slots.items last.core.frames.items around more u (affordable left (row p u))
        → HasBurst byte held p most (told_by what) old (ended what) before after more s
    called_run (out.On to there cost) place t = went_run to there cost place.0 place.1 t
    called_run (out.Exited status) place t = calm_run (out.Exited status) place.0 place.1 t.3 (λ e. absurd cc)
        (ends_so (step p left u).next (end.Exited status) (ap (λ (r : Row). r.next) (sym (limits u)) ∙ t.0), present t.2, omega (arith, counted, t.1, ap (λ (r : Row). r.cost) (limits u)), refl)
    called_run (out.Trapped trap) place t = calm_run (out.Trapped trap) place.0 place.1 t.3 (λ e. absurd cc)
        (ends_so (step p left u).next (end.Trapped trap) (ap (λ (r : Row). r.next) (sym (limits u)) ∙ t.0), present t.2, omega (arith, counted, t.1, ap (λ (r : Row). r.cost) (limits u)), refl)
    called_run out.Over place t = calm_run out.Over place.0 place.1 t.3 (λ e. absurd cc)
        (ends_so (step p left u).next end.Unfinished (ap (λ (r : Row). r.next) (sym (limits u)) ∙ t.0), present t.2, omega (arith, counted, t.1, ap (λ (r : Row). r.cost) (limits u)), refl)
    called_run out.Stuck place t = absurd (spun.here.never [] 0 u (no_step p u) (stuck_row left (row p u) t))
    called_run (out.WantPage page) place t = calm_run (out.WantPage page) place.0 place.1 t.1 (λ e. absurd cc)
        ((omega (arith, counted), refl), subst (λ (h : ℕ → Bool). IsLowestAbsent h (needed (step p left u)) page) (sym still_held) (subst (λ (r : Row). IsLowestAbsent (held mid.core.mem) (needed r) page) (limits u) t.0))
    called_run out.WantInput place t = calm_run out.WantInput place.0 place.1 t.3 (λ e. absurd cc)
        ((omega (arith, counted), refl), ap (λ (r : Row). r.asks) (sym (limits u)) ∙ t.0, t.3.calm.rest ∙ t.1, same_ended ∙ t.2)
    called_run out.Grow place t = calm_run out.Grow place.0 place.1 t (λ e. absurd cc) (omega (arith, counted), refl)
    called_run out.NoMemory place t = calm_run out.NoMemory place.0 place.1 t (λ e. absurd cc) (omega (arith, counted), refl)

-- ---- as a machine runs

abbrev IsInside : Stop → Type 0
IsInside stop.Outside = ⊥
IsInside _ = Unit {0}

-- turns that stopped at a call left something
pub further : (why : Stop) (done most left : ℕ) → (why ≡ stop.Spent) ⊎ (done < most) → why ≡ stop.Outside → most ≤ left → done < left
further why done most left (inl e) is high = absurd (subst IsInside (sym e ∙ is) tt)
further why done most left (inr some) is high = omega (arith, some, high)

module _ {M : Type 0} (byte : M → ℕ → ℕ) (held : M → ℕ → Bool) (regions : M → Regions) (a : Accepted) (old mid : Machine M) (why : Stop) (done : ℕ) (is_mid : mid ≡ record old { core = mid.core; count = old.count + done }) (same_regions : regions mid.core.mem ≡ regions old.core.mem) (same_held : held mid.core.mem ≡ held old.core.mem) (same_heap : mid.core.heap ≡ old.core.heap)
    (within : old.count ≤ old.budget) (before : Env)
    (spun : (s : State) → IsHere (program_of regions a old) old.core.at old.core.base old.core.sp old.core.slots.items old.core.frames.items (held old.core.mem) (byte old.core.mem) s → HasSpun (program_of regions a old) why done mid.core.at mid.core.base mid.core.sp mid.core.slots.items mid.core.frames.items (held old.core.mem) (byte mid.core.mem) s) where
  same_program : program_of regions a mid ≡ program_of regions a old
  same_program = ap (λ (l : List ℕ). program_with a l (regions mid.core.mem)) (ap (λ (m : Machine M). m.addresses) is_mid) ∙ ap (program_with a old.addresses) same_regions

  counted_mid : mid.count ≡ old.count + done
  counted_mid = ap (λ (m : Machine M). m.count) is_mid

  -- turns inside were all that was done
  pub turns_run : HasNoMarks a.«module» → (most : ℕ) → done ≤ left_of old → (why ≡ stop.Spent → (0 < done) × (done ≤ most)) → (why ≡ stop.Spent) ⊎ ((done < left_of old) × (done < most)) → (told : Burst) (cost : ℕ) (result : Burst) (new : Machine M) → told ≡ told_of why → cost ≡ cost_of why → new ≡ record mid { count = mid.count + cost; end = end_by told } → result ≡ told
      → (more : List ℕ) (s : State) → IsAt byte held (program_of regions a old) old before more s → HasBurst byte held (program_of regions a old) most result old new before before more s
  turns_run marks most low all some told cost result new told_is cost_is new_is result_is more s from =
      let is : new ≡ record mid { count = mid.count + cost_of why; end = end_by (told_of why) } =
      new_is ∙ ap (λ (k : ℕ). record mid { count = mid.count + k; end = end_by told }) cost_is ∙ ap (λ (r : Burst). record mid { count = mid.count + cost_of why; end = end_by r }) told_is in
      subst (λ (m : Machine M). HasBurst byte held (program_of regions a old) most result old m before before more s) (sym is)
      (subst (λ (r : Burst). HasBurst byte held (program_of regions a old) most r old (record mid { count = mid.count + cost_of why; end = end_by (told_of why) }) before before more s) (sym (result_is ∙ told_is))
      (told_run byte held (program_of regions a old) old mid done low within counted_mid before more marks most same_held same_heap s from why (below why done most (left_of old) all some) (spun s from.here)))

  -- a call stands behind them
  module _ (outside : why ≡ stop.Outside) (some : done < left_of old) (last : Machine M) (what : Out) (after : Env)
      (outs : (s : State) → (more : List ℕ) → IsHere (program_of regions a mid) mid.core.at mid.core.base mid.core.sp mid.core.slots.items mid.core.frames.items (held mid.core.mem) (byte mid.core.mem) s → s.heap ≡ mid.core.heap → s.input ≡ before.input ++ more → (before.ended ≡ true → more ≡ [])
      → Outs (program_of regions a mid) what mid.core.at mid.core.base last.core.sp last.core.slots.items last.core.frames.items (record { held = held mid.core.mem; byte = byte mid.core.mem; after = byte last.core.mem; heap = mid.core.heap; heap_after = last.core.heap; env = before; env_after = after }) more s (affordable (left_of old - done) (row (program_of regions a mid) s)))
      (is_last : last ≡ record mid { core = last.core }) where
    spun_out : (s : State) → IsHere (program_of regions a old) old.core.at old.core.base old.core.sp old.core.slots.items old.core.frames.items (held old.core.mem) (byte old.core.mem) s → HasSpun (program_of regions a old) stop.Outside done mid.core.at mid.core.base mid.core.sp mid.core.slots.items mid.core.frames.items (held old.core.mem) (byte mid.core.mem) s
    spun_out s here = subst (λ (w : Stop). HasSpun (program_of regions a old) w done mid.core.at mid.core.base mid.core.sp mid.core.slots.items mid.core.frames.items (held old.core.mem) (byte mid.core.mem) s) outside (spun s here)

    counted_last : last.count ≡ old.count + done
    counted_last = ap (λ (m : Machine M). m.count) is_last ∙ counted_mid

    outs_here : (more : List ℕ) (s : State) → (from : IsAt byte held (program_of regions a old) old before more s) → Outs (program_of regions a old) what mid.core.at mid.core.base last.core.sp last.core.slots.items last.core.frames.items (record { held = held mid.core.mem; byte = byte mid.core.mem; after = byte last.core.mem; heap = mid.core.heap; heap_after = last.core.heap; env = before; env_after = after }) more (spun_out s from.here).state (affordable (left_of old - done) (row (program_of regions a old) (spun_out s from.here).state))
    outs_here more s from =
        let t = spun_out s from.here in
        let here_mid : IsHere (program_of regions a mid) mid.core.at mid.core.base mid.core.sp mid.core.slots.items mid.core.frames.items (held mid.core.mem) (byte mid.core.mem) t.state =
        subst (λ (q : Program). IsHere q mid.core.at mid.core.base mid.core.sp mid.core.slots.items mid.core.frames.items (held mid.core.mem) (byte mid.core.mem) t.state) (sym same_program)
        (subst (λ (h : ℕ → Bool). IsHere (program_of regions a old) mid.core.at mid.core.base mid.core.sp mid.core.slots.items mid.core.frames.items h (byte mid.core.mem) t.state) (sym same_held) t.here) in
        subst (λ (q : Program). Outs q what mid.core.at mid.core.base last.core.sp last.core.slots.items last.core.frames.items (record { held = held mid.core.mem; byte = byte mid.core.mem; after = byte last.core.mem; heap = mid.core.heap; heap_after = last.core.heap; env = before; env_after = after }) more t.state (affordable (left_of old - done) (row q t.state))) same_program
        (outs t.state more here_mid (t.heap ∙ from.blocks ∙ sym same_heap) (t.input ∙ from.rest) from.last)

    -- what is counted of it fits the budget
    pub counts : ((s : State) × (more : List ℕ) × IsAt byte held (program_of regions a old) old before more s) → (cost : ℕ) → cost ≡ cost_by what → last.count + cost ≤ old.budget
    counts at cost is =
        let fits = cost_fits (program_of regions a old) what mid.core.at mid.core.base last.core.sp last.core.slots.items last.core.frames.items (record { held = held mid.core.mem; byte = byte mid.core.mem; after = byte last.core.mem; heap = mid.core.heap; heap_after = last.core.heap; env = before; env_after = after }) at.1 (spun_out at.0 at.2.here).state (left_of old - done) (omega (arith, some)) (outs_here at.1 at.0 at.2) in
        omega (arith, fits, is, counted_last, some, within)

    pub call_run : HasNoMarks a.«module» → (most : ℕ) → done < most → held last.core.mem ≡ held mid.core.mem → after.ended ≡ before.ended → Placed what mid.core.at mid.core.base last.core.at last.core.base → (told : Burst) (cost : ℕ) (result : Burst) (new : Machine M) → told ≡ told_by what → cost ≡ cost_by what → new ≡ record last { count = last.count + cost; end = end_by told } → result ≡ told
        → (more : List ℕ) (s : State) → IsAt byte held (program_of regions a old) old before more s → HasBurst byte held (program_of regions a old) most result old new before after more s
    call_run marks most few still_held same_ended place told cost result new told_is cost_is new_is result_is more s from =
        let is : new ≡ record last { count = last.count + cost_by what; end = end_by (told_by what) } =
        new_is ∙ ap (λ (k : ℕ). record last { count = last.count + k; end = end_by told }) cost_is ∙ ap (λ (r : Burst). record last { count = last.count + cost_by what; end = end_by r }) told_is in
        subst (λ (m : Machine M). HasBurst byte held (program_of regions a old) most result old m before after more s) (sym is)
        (subst (λ (r : Burst). HasBurst byte held (program_of regions a old) most r old (record last { count = last.count + cost_by what; end = end_by (told_by what) }) before after more s) (sym (result_is ∙ told_is))
        (called_run byte held (program_of regions a old) old mid last done some within counted_last before after more marks most few same_held still_held same_heap same_ended s from (spun_out s from.here) what place (outs_here more s from)))

-- nothing was left to do anything with, and each instruction costs something
pub none_left : {M : Type 0} (byte : M → ℕ → ℕ) (held : M → ℕ → Bool) (regions : M → Regions) (a : Accepted) (old : Machine M) (env : Env) → HasNoMarks a.«module» → left_of old ≡ 0 → (most : ℕ) (result : Burst) (new : Machine M) → new ≡ record old { count = old.count + 0; end = end_by (burst.Ended end.Unfinished) } → result ≡ burst.Ended end.Unfinished
    → (more : List ℕ) (s : State) → IsAt byte held (program_of regions a old) old env more s → HasBurst byte held (program_of regions a old) most result old new env env more s
none_left {M = M} byte held regions a old env marks none most result new new_is result_is more s from =
    let p : Program = program_of regions a old in
    let left : left_of old - 0 ≡ 0 = omega (arith, none) in
    let is : step p (left_of old - 0) s ≡ unfinished [] = ap (λ (k : ℕ). limited k (row p s)) left ∙ limited_none (row p s) (row_costs p s (λ i is. marks s.frame.function s.frame.block s.frame.at i is)) in
    let last : Machine M = record old { count = old.count + 0; end = Some end.Unfinished } in
    let burst : HasBurst byte held p most (burst.Ended end.Unfinished) old last env env more s = record {
      bytes = [];
      cost = 0;
      state = s;
      steps = each_none (HasPages (held old.core.mem)) p s;
      afforded = omega arith;
      wrote = sym (append-nil env.output.items);
      at = record { here = from.here; blocks = from.blocks; rest = from.rest; last = from.last };
      stops = (
        ends_so (step p (left_of old - 0) s).next end.Unfinished (ap (λ (r : Row). r.next) is),
        subst (λ (r : Row). AreHeld (held old.core.mem) r.sought) (sym is) (λ page touches. absurd touches),
        omega (arith, ap (λ (r : Row). r.cost) is),
        refl,
      );
      one = λ only e. absurd cc;
      none = λ only. inr refl;
    } in
    subst (λ (m : Machine M). HasBurst byte held p most result old m env env more s) (sym new_is)
    (subst (λ (r : Burst). HasBurst byte held p most r old last env env more s) (sym result_is) burst)
