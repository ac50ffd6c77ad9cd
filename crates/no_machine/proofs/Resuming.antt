-- Returns mean their instructions.
use Rattle.std.proofs.Common.{◌≡◌, ℕ, ◌+◌, ◌<◌, ◌≤◌, ◌∷◌, Bool, true, IsTrue, List, [], length, take, drop, slice_set, Option, Some, None, refl, sym, ap, subst, ◌∙◌, arith}
use Rattle.std.proofs.lemmas.Bool.{and_parts}
use Rattle.std.proofs.lemmas.List.{length-drop, length-take-le}
use Rattle.std.proofs.lemmas.Option.{same_Some}
use Rattle.no_ir.specs.declared.types.Ty.{Ty}
use Rattle.no_ir.specs.declared.instruction.Instr.{Instr}
use Rattle.no_ir.specs.declared.instruction.Op.{Op}
use Rattle.no_ir.specs.declared.instruction.Op.TheVariants as op
use Rattle.no_ir.specs.declared.instruction.Operand.{Operand}
use Rattle.no_layout.specs.Memory.{Agrees}
use Rattle.no_layout.specs.Text.{is_formed}
use Rattle.no_semantics.specs.Acting.{row, row_of_op}
use Rattle.no_semantics.specs.Calls.{returned, returned_in, row_ret, row_return}
use Rattle.no_semantics.specs.Registers.{argument_of, given}
use Rattle.no_semantics.specs.Rows.{Row, going, needed, stuck}
use Rattle.no_semantics.specs.Sound.{is_scalar, op_fits, operand_fits}
use Rattle.no_semantics.specs.Spans.{AreHeld}
use Rattle.no_semantics.specs.States.{Frame, State, answered, assigned, instr_at, moved}
use Rattle.no_semantics.specs.Values.{Program, width_of}
use Rattle.no_semantics.proofs.Scalars.{most, scalar_width, some}
use Rattle.no_code.specs.Slots.{IsInto}
use Rattle.no_code.specs.declared.code.Code.{Code}
use Rattle.no_machine.specs.Calling.{GoesBack, IsReadyReturn, IsUntouched, given_at}
use Rattle.no_machine.specs.Standing.{AreWaiting, IsFrameAt, IsReturn, IsWaiting, Stands}
use Rattle.no_machine.specs.Turning.{Turned}
use Rattle.no_machine.specs.declared.frame.Saved.{Saved}
use Rattle.no_machine.specs.declared.turn.Stop.TheVariants as stop
use Rattle.no_machine.specs.declared.turn.Turn.{Turn}
use Rattle.no_machine.specs.declared.turn.Turn.TheVariants as turn
use Rattle.no_machine.proofs.Branching.{into_low}
use Rattle.no_machine.proofs.Framing.{assigned_at, covers_more, moved_at}
use Rattle.no_machine.proofs.Going.{Live, none_needed}
use Rattle.no_machine.proofs.Lists.{drop_lower, drop_set, set_length, snoc_same, snoc_some, take_lower, take_set}
use Rattle.no_machine.proofs.Locating.{Current}
use Rattle.no_machine.proofs.Reading.{Reads, reads}

-- ---- what stands where it stood

pub untouched_stands : (p : Program) (at base sp after : ℕ) (slots new : List ℕ) (frames now : List Saved) (s : State) → IsUntouched slots new frames now sp after → Stands p at base sp slots frames s → Stands p at base after new now s
untouched_stands p at base sp after slots new frames now s u st =
    subst (λ (k : ℕ). Stands p at base k new now s) (sym u.same_stack) (subst (λ (l : List Saved). Stands p at base sp new l s) (sym u.same_frames) (subst (λ (l : List ℕ). Stands p at base sp l frames s) (sym u.same_slots) st))

-- ---- rows

ret_known : (p : Program) (x : Ty × Operand) (s : State) → Live (row_ret p (Some x) s) → (v : ℕ) × (argument_of p s.frame.registers x ≡ Some v)
unfolding row_ret
ret_known p x s live = of (argument_of p s.frame.registers x) live
  where
    of : (o : Option ℕ) → Live (given stuck o (λ n. row_return p (Some n) s)) → (v : ℕ) × (o ≡ Some v)
    of None live = absurd (live refl)
    of (Some v) live = (v, refl)

ret_row : (p : Program) (x : Ty × Operand) (s : State) (v : ℕ) → argument_of p s.frame.registers x ≡ Some v → row_ret p (Some x) s ≡ returned p (Some v) s.callers s
unfolding row_ret
ret_row p x s v e = rw e refl

leave_row : (p : Program) (s : State) → row_ret p None s ≡ returned p None s.callers s
unfolding row_ret
leave_row p s = refl

-- a caller that went on has its instruction, and the value
resumed_known : (p : Program) (s : State) (callers : List Frame) (value : Option ℕ) (c : Frame) → Live (returned_in s callers (given None (instr_at p c) (λ i. answered i.result value c)))
    → (i : Instr) × (f : Frame) × (instr_at p c ≡ Some i) × (answered i.result value c ≡ Some f)
    × (returned_in s callers (given None (instr_at p c) (λ i. answered i.result value c)) ≡ going (record s { frame = f; callers = callers; sp = s.frame.saved }))
resumed_known p s callers value c live = of (instr_at p c) live
  where
    with_frame : (i : Instr) (o : Option Frame) → Live (returned_in s callers o) → (f : Frame) × (o ≡ Some f) × (returned_in s callers o ≡ going (record s { frame = f; callers = callers; sp = s.frame.saved }))
    with_frame i None live = absurd (live refl)
    with_frame i (Some f) live = (f, refl, refl)

    of : (o : Option Instr) → Live (returned_in s callers (given None o (λ i. answered i.result value c)))
        → (i : Instr) × (f : Frame) × (o ≡ Some i) × (answered i.result value c ≡ Some f) × (returned_in s callers (given None o (λ i. answered i.result value c)) ≡ going (record s { frame = f; callers = callers; sp = s.frame.saved }))
    of None live = absurd (live refl)
    of (Some i) live = (let g = with_frame i (answered i.result value c) live in (i, g.0, refl, g.1, g.2))

-- ---- the caller's frame with a result

pub resumes_at : (p : Program) (c f : Frame) (at into base : ℕ) (result value : Option ℕ) (slots : List ℕ) → answered result value c ≡ Some f → IsInto (length c.registers) result into → IsFrameAt p.«module» c at (drop base slots)
    → IsFrameAt p.«module» f (at + 1) (drop base (given_at value (base + into) slots)) × (f.saved ≡ c.saved)
resumes_at p c f at into base None None slots e is there =
    let same : moved c ≡ f = same_Some (moved c) f e in
    (subst (λ (x : Frame). IsFrameAt p.«module» x (at + 1) (drop base slots)) same (moved_at p.«module» c at (drop base slots) there), sym (ap (λ (x : Frame). x.saved) same))
resumes_at p c f at into base (Some r) None slots e is there =
    let same : moved c ≡ f = same_Some (moved c) f e in
    (subst (λ (x : Frame). IsFrameAt p.«module» x (at + 1) (drop base slots)) same (moved_at p.«module» c at (drop base slots) there), sym (ap (λ (x : Frame). x.saved) same))
resumes_at p c f at into base None (Some n) slots e is there =
    let same : assigned None n c ≡ f = same_Some (moved c) f e in (
      subst (λ (l : List ℕ). IsFrameAt p.«module» f (at + 1) l) (sym (drop_set base into (base + into) slots n refl))
          (subst (λ (x : Frame). IsFrameAt p.«module» x (at + 1) (slice_set (drop base slots) into n)) same (assigned_at p.«module» c at (drop base slots) None into n is there)),
      sym (ap (λ (x : Frame). x.saved) same),
    )
resumes_at p c f at into base (Some r) (Some n) slots e is there =
    let same : assigned (Some r) n c ≡ f = same_Some (assigned (Some r) n c) f e in (
      subst (λ (l : List ℕ). IsFrameAt p.«module» f (at + 1) l) (sym (drop_set base into (base + into) slots n refl))
          (subst (λ (x : Frame). IsFrameAt p.«module» x (at + 1) (slice_set (drop base slots) into n)) same (assigned_at p.«module» c at (drop base slots) (Some r) into n is there)),
      sym (ap (λ (x : Frame). x.saved) same),
    )

pub given_length : (value : Option ℕ) (place : ℕ) (slots : List ℕ) → length (given_at value place slots) ≡ length slots
given_length None place slots = refl
given_length (Some n) place slots = set_length slots place n

pub given_take : (value : Option ℕ) (base into : ℕ) (slots : List ℕ) → take base (given_at value (base + into) slots) ≡ take base slots
given_take None base into slots = refl
given_take (Some n) base into slots = take_set base (base + into) slots n (omega arith)

longer_at : (p : Program) (c : Frame) (at low base : ℕ) (slots : List ℕ) → low ≤ base → IsFrameAt p.«module» c at (drop low (take base slots)) → IsFrameAt p.«module» c at (drop low slots)
longer_at p c at low base slots le there = record {
  function = there.function;
  is = there.is;
  long = there.long;
  place = there.place;
  covers = subst (λ (l : List ℕ). Rattle.no_machine.specs.Standing.Covers c.registers l) (sym (drop_lower low base slots le)) (covers_more c.registers (drop low (take base slots)) (drop base slots) there.covers);
}

module _ (p : Program) (s : State) (at base sp : ℕ) (slots : List ℕ) (frames : List Saved) (st : Stands p at base sp slots frames s) (held : ℕ → Bool) (byte : ℕ → ℕ) (agrees : Agrees held byte s.byte) (value : Option ℕ) where
  inside_slots : (w : Saved) (c : Frame) → IsWaiting p c s.frame.saved w (take base slots) → (i : Instr) → instr_at p c ≡ Some i → w.base + w.into < length slots
  inside_slots w c waits i is =
      let low : w.into ≤ length c.registers = into_low (length c.registers) i.result w.into (waits.result i is) in
      let room = waits.frame.covers.room in
      let long : length (take base slots) ≡ base = length-take-le base slots st.inside in
      omega (arith, low, room, length-drop w.base (take base slots), long, st.inside, waits.base)

  ready_in : (callers : List Frame) → AreWaiting p s.frame.saved callers frames (take base slots) → Live (returned p value callers s) → IsReadyReturn slots frames
  ready_in [] waits live front w e = absurd (snoc_some front w (sym waits ∙ e))
  ready_in (c ∷ callers) waits live front w e =
      let same = snoc_same front waits.0 w waits.1 (sym e ∙ waits.2) in
      let known = resumed_known p s callers value c live in
      subst (λ (x : Saved). x.base + x.into < length slots) (sym same.1) (inside_slots waits.1 c waits.3 known.0 known.2)

  pub return_ready : row p s ≡ returned p value s.callers s → Live (row p s) → IsReadyReturn slots frames
  return_ready e live = ready_in s.callers st.callers (subst Live e live)

  turned_in : (callers : List Frame) → AreWaiting p s.frame.saved callers frames (take base slots) → row p s ≡ returned p value callers s → Live (returned p value callers s)
      → (new : List ℕ) (now : List Saved) (after : ℕ) (result : Turn) → GoesBack result value slots new frames now sp after → Turned p result at base after new now held byte byte s
  turned_in [] waits e live new now after (turn.On next there) goes = absurd (snoc_some now goes.0 (sym waits ∙ goes.1))
  turned_in [] waits e live new now after (turn.Halt _ _ (stop.Left v)) goes =
      (e ∙ ap (λ (o : Option ℕ). returned p o [] s) (sym goes.0), record { stands = untouched_stands p at base sp after slots new frames now s goes.2 st; bytes = refl })
  turned_in (c ∷ callers) waits e live new now after (turn.Halt _ _ (stop.Left v)) goes = absurd (snoc_some waits.0 waits.1 (sym goes.1 ∙ waits.2))
  turned_in callers waits e live new now after (turn.Halt _ _ stop.Grow) goes = absurd goes
  turned_in callers waits e live new now after (turn.Halt _ _ stop.NoMemory) goes = absurd goes
  turned_in callers waits e live new now after (turn.Halt _ _ (stop.Trapped t)) goes = absurd goes
  turned_in callers waits e live new now after (turn.Halt _ _ (stop.WantPage q)) goes = absurd goes
  turned_in callers waits e live new now after (turn.Halt _ _ stop.Outside) goes = absurd goes
  turned_in callers waits e live new now after (turn.Halt _ _ stop.Spent) goes = absurd goes
  turned_in (c ∷ callers) waits e live new now after (turn.On next there) goes =
      let w = waits.1 in
      let same = snoc_same now waits.0 goes.0 w (sym goes.1 ∙ waits.2) in
      let waiting = waits.3 in
      let known = resumed_known p s callers value c live in
      let row_is : row p s ≡ going (record s { frame = known.1; callers = callers; sp = s.frame.saved }) = e ∙ known.4 in
      let long : length (take base slots) ≡ base = length-take-le base slots st.inside in
      let low : w.base ≤ base = omega (arith, waiting.base, long) in
      let next_is : next ≡ waiting.at + 1 = goes.2 ∙ ap (λ (x : Saved). x.next) same.1 ∙ waiting.next in
      let there_is : there ≡ w.base = goes.3 ∙ ap (λ (x : Saved). x.base) same.1 in
      let new_is : new ≡ given_at value (w.base + w.into) slots = goes.4 ∙ ap (λ (x : Saved). given_at value (x.base + x.into) slots) same.1 in
      let after_is : after ≡ s.frame.saved = goes.5 ∙ ap (λ (x : Saved). x.sp) same.1 ∙ waiting.sp_is in
      let resumes = resumes_at p c known.1 waiting.at w.into w.base known.0.result value slots known.3 (waiting.result known.0 known.2) (longer_at p c waiting.at w.base base slots low waiting.frame) in
      let below : take w.base (given_at value (w.base + w.into) slots) ≡ take w.base (take base slots) = given_take value w.base w.into slots ∙ sym (take_lower w.base base slots low) in
      let stands : Stands p (waiting.at + 1) w.base s.frame.saved (given_at value (w.base + w.into) slots) now (record s { frame = known.1; callers = callers; sp = s.frame.saved }) = record {
        inside = omega (arith, given_length value (w.base + w.into) slots, low, st.inside);
        frame = resumes.0;
        callers = subst (λ (l : List ℕ). AreWaiting p known.1.saved callers now l) (sym below)
            (subst (λ (k : ℕ). AreWaiting p k callers now (take w.base (take base slots))) (sym resumes.1)
            (subst (λ (l : List Saved). AreWaiting p c.saved callers l (take w.base (take base slots))) (sym same.0) waits.4));
        sp_is = refl;
      } in
      record {
        state = record s { frame = known.1; callers = callers; sp = s.frame.saved };
        call = None;
        next = ap (λ (r : Row). r.next) row_is;
        cost = ap (λ (r : Row). r.cost) row_is;
        stands = subst (λ (k : ℕ). Stands p k there after new now (record s { frame = known.1; callers = callers; sp = s.frame.saved })) (sym next_is)
            (subst (λ (k : ℕ). Stands p (waiting.at + 1) k after new now (record s { frame = known.1; callers = callers; sp = s.frame.saved })) (sym there_is)
            (subst (λ (k : ℕ). Stands p (waiting.at + 1) w.base k new now (record s { frame = known.1; callers = callers; sp = s.frame.saved })) (sym after_is)
            (subst (λ (l : List ℕ). Stands p (waiting.at + 1) w.base s.frame.saved l now (record s { frame = known.1; callers = callers; sp = s.frame.saved })) (sym new_is) stands)));
        heap = refl;
        input = refl;
        agrees = agrees;
        present = subst (λ (r : Row). AreHeld held (needed r)) (sym row_is) (none_needed held);
      }

  pub return_turned : row p s ≡ returned p value s.callers s → Live (row p s) → (new : List ℕ) (now : List Saved) (after : ℕ) (result : Turn) → GoesBack result value slots new frames now sp after → Turned p result at base after new now held byte byte s
  return_turned e live new now after result goes = turned_in s.callers st.callers e (subst Live e live) new now after result goes

-- the number that is returned
pub record Gives (p : Program) (code : Code) (s : State) (window : List ℕ) (x : ℕ) : Type 0 where
  pub width : ℕ
  pub number : ℕ
  pub value : Reads window code.constants width x number
  pub row_is : row p s ≡ returned p (Some number) s.callers s

pub return_gives : (p : Program) (formed : IsTrue (is_formed p.layout)) (code : Code) (s : State) (at : ℕ) (window : List ℕ) (here : IsFrameAt p.«module» s.frame at window) (cur : Current p code s at window here) (x : ℕ) → IsReturn p (length s.frame.registers) code x cur.instr → Gives p code s window x
return_gives p formed code s at window here cur x r =
    let q : Op = op.Ret (Some (r.t, r.a)) in
    let ok : op_fits p.«module» p.layout p.sizes q ≡ true = subst (λ (z : Op). op_fits p.«module» p.layout p.sizes z ≡ true) r.is cur.fits in
    let parts = and_parts (is_scalar r.t) (operand_fits p.«module» p.layout p.sizes r.a) ok in
    let row_as : row p s ≡ row_ret p (Some (r.t, r.a)) s = cur.row_is ∙ ap (λ (z : Op). row_of_op p cur.instr.result z s) r.is in
    let known = ret_known p (r.t, r.a) s (subst Live (ap (λ (z : Op). row_of_op p cur.instr.result z s) r.is) cur.live) in
    let width = scalar_width p.layout r.t formed parts.0 in
    record {
      width = width_of p.layout r.t;
      number = known.0;
      value = reads p s.frame.registers window code.constants here.covers (width_of p.layout r.t) x known.0 r.a (some (width_of p.layout r.t) width) (most (width_of p.layout r.t) width) parts.1 r.value known.1;
      row_is = row_as ∙ ret_row p (r.t, r.a) s known.0 known.1;
    }

pub leave_gives : (p : Program) (code : Code) (s : State) (at : ℕ) (window : List ℕ) (here : IsFrameAt p.«module» s.frame at window) (cur : Current p code s at window here) → cur.instr.op ≡ op.Ret None → row p s ≡ returned p None s.callers s
leave_gives p code s at window here cur e = cur.row_is ∙ ap (λ (z : Op). row_of_op p cur.instr.result z s) e ∙ leave_row p s
