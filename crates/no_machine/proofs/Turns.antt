-- What a cell did, and what a call or a return did, as a turn of the machine.
use Rattle.std.proofs.Common.{◌≡◌, ℕ, ◌+◌, ◌<◌, ◌++◌, Bool, IsTrue, List, [], length, take, drop, slice_get, Some, None, refl, sym, ap, subst, ◌∙◌, arith}
use Rattle.std.proofs.lemmas.List.{take-append-drop}
use Rattle.std.proofs.lemmas.Option.{same_Some, slice_get_within}
use Rattle.no_ir.specs.declared.instruction.Instr.{Instr}
use Rattle.no_ir.specs.declared.instruction.Op.TheVariants as op
use Rattle.no_layout.specs.Memory.{Agrees}
use Rattle.no_layout.specs.Text.{is_formed}
use Rattle.no_layout.specs.declared.memory.Regions.{Regions}
use Rattle.no_semantics.specs.Accepted.{Accepted}
use Rattle.no_semantics.specs.Acting.{row}
use Rattle.no_semantics.specs.Rows.{Row}
use Rattle.no_semantics.specs.States.{Frame, State}
use Rattle.no_semantics.specs.Values.{Program}
use Rattle.no_semantics.proofs.Facts.{layout_formed, table_is}
use Rattle.no_code.specs.Coded.{IsCall}
use Rattle.no_code.specs.declared.code.Cell.{Cell}
use Rattle.no_code.specs.declared.code.Code.{Code}
use Rattle.no_machine.specs.Calling.{Called, GoesBack, IsReadyCall, IsReadyReturn}
use Rattle.no_machine.specs.Did.{Acted, Beside, IsReady}
use Rattle.no_machine.specs.Slots.{IsSlotIn, value_in}
use Rattle.no_machine.specs.Standing.{AreWaiting, HasGone, IsReturn, IsSame, Says, Stands, source_of}
use Rattle.no_machine.specs.Turning.{AreFacts, HasTurned, IsHere, IsStill, NeverStuck, Turned, program_with}
use Rattle.no_machine.specs.declared.did.Did.{Did}
use Rattle.no_machine.specs.declared.did.Did.TheVariants as did
use Rattle.no_machine.specs.declared.frame.Saved.{Saved}
use Rattle.no_machine.specs.declared.turn.Stop.TheVariants as stop
use Rattle.no_machine.specs.declared.turn.Turn.{Turn}
use Rattle.no_machine.specs.declared.turn.Turn.TheVariants as turn
use Rattle.no_machine.proofs.Going.{Live}
use Rattle.no_machine.proofs.Invoking.{call_ready, call_turns, invokes_by_name}
use Rattle.no_machine.proofs.Locating.{Current, current}
use Rattle.no_machine.proofs.Meaning.{cell_ready, cell_says}
use Rattle.no_machine.proofs.Resuming.{leave_gives, return_gives, return_ready, return_turned}

pub live_here : (p : Program) (s : State) → NeverStuck p s → Live (row p s)
live_here p s never = never [] 0 s (0, refl)

-- the slots above and below a base
joined : (base : ℕ) (old new : List ℕ) → take base new ≡ take base old → drop base new ≡ drop base old → new ≡ old
joined base old new low high = sym (take-append-drop base new) ∙ ap (λ (l : List ℕ). l ++ drop base new) low ∙ ap (λ (l : List ℕ). take base old ++ l) high ∙ take-append-drop base old

-- a turn over memory that is as before
pub turned_bytes : (p : Program) (result : Turn) (at base sp : ℕ) (slots : List ℕ) (frames : List Saved) (held : ℕ → Bool) (byte after : ℕ → ℕ) (s : State) → after ≡ byte → Turned p result at base sp slots frames held after after s → Turned p result at base sp slots frames held byte after s
turned_bytes p result at base sp slots frames held byte after s e t = subst (λ (f : ℕ → ℕ). Turned p result at base sp slots frames held f after s) e t

module _ (a : Accepted) (addresses : List ℕ) (regions : Regions) (code : Code) (cells : List Cell) (constants : List ℕ) (declared : List Bool) (big : Bool) (pointer : ℕ) (facts : AreFacts a addresses code cells constants declared big pointer) where
  abbrev p : Program
  p = program_with a addresses regions

  pub formed : IsTrue (is_formed a.layout)
  formed = layout_formed a.«module» a.layout a.sizes facts.sound

  module _ (at base sp : ℕ) (slots : List ℕ) (frames : List Saved) (held : ℕ → Bool) (byte : ℕ → ℕ) (s : State) (here : IsHere p at base sp slots frames held byte s) where
    pub live : Live (row p s)
    live = live_here p s here.never

    pub cur : Current p code s at (drop base slots) here.stands.frame
    cur = current p facts.sound code facts.is facts.marks s at (drop base slots) here.stands.frame live

    pub at_inside : at < length cells
    at_inside = omega (arith, slice_get_within code.cells at cur.cell cur.cell_is, ap length facts.cells_are)

    pub cell_is : (c : Cell) → slice_get cells at ≡ Some c → c ≡ cur.cell
    cell_is c e = same_Some c cur.cell (sym e ∙ ap (λ (l : List Cell). slice_get l at) facts.cells_are ∙ cur.cell_is)

    pub ready : (c : Cell) → slice_get cells at ≡ Some c → IsReady pointer code (drop base slots) c
    ready c e =
        subst (λ (c : Cell). IsReady pointer code (drop base slots) c) (sym (cell_is c e)) (subst (λ (k : ℕ). IsReady k code (drop base slots) cur.cell) (sym facts.width)
        (cell_ready p formed (table_is a.«module» a.layout a.sizes facts.sound) code cur.instr s at (drop base slots) here.stands.frame cur.from cur.from_is cur.blocks cur.fits cur.live cur.cell cur.means))

    -- a call, with slots and memory as before
    pub call_needs : (into f from to : ℕ) → IsCall (source_of p) (length s.frame.registers) code into f from to cur.instr → IsReadyCall code declared (drop base slots) at f from to
    call_needs into f from to r = call_ready p formed code facts.is declared facts.flags s at base sp slots frames here.stands cur into f from to (invokes_by_name p formed code s at (drop base slots) here.stands.frame cur into f from to r)

    pub call_means : (into f from to : ℕ) (r : IsCall (source_of p) (length s.frame.registers) code into f from to cur.instr) (new : List ℕ) (now : List Saved) (after : ℕ) (result : Turn)
        → ((z : IsReadyCall code declared (drop base slots) at f from to) → Called result code z.outside z.home z.callee at base into from to slots new frames now sp after) → Turned p result at base after new now held byte byte s
    call_means into f from to r new now after result called =
        call_turns p formed code facts.is declared facts.flags s at base sp slots frames here.stands cur into f from to (invokes_by_name p formed code s at (drop base slots) here.stands.frame cur into f from to r) live held byte here.agrees new now after result called

    pub return_needs : (x : ℕ) → IsReturn p (length s.frame.registers) code x cur.instr → IsSlotIn (drop base slots) code.constants x × IsReadyReturn slots frames
    return_needs x r =
        let g = return_gives p formed code s at (drop base slots) here.stands.frame cur x r in
        (g.value.slot, return_ready p s at base sp slots frames here.stands held byte here.agrees (Some g.number) g.row_is live)

    pub return_means : (x : ℕ) → IsReturn p (length s.frame.registers) code x cur.instr → (v : ℕ) → v ≡ value_in (drop base slots) code.constants x → (new : List ℕ) (now : List Saved) (after : ℕ) (result : Turn)
        → GoesBack result (Some v) slots new frames now sp after → Turned p result at base after new now held byte byte s
    return_means x r v is new now after result goes =
        let g = return_gives p formed code s at (drop base slots) here.stands.frame cur x r in
        return_turned p s at base sp slots frames here.stands held byte here.agrees (Some g.number) g.row_is live new now after result
        (subst (λ (k : ℕ). GoesBack result (Some k) slots new frames now sp after) (is ∙ g.value.is) goes)

    pub leave_needs : cur.instr.op ≡ op.Ret None → IsReadyReturn slots frames
    leave_needs e = return_ready p s at base sp slots frames here.stands held byte here.agrees None (leave_gives p code s at (drop base slots) here.stands.frame cur e) live

    pub leave_means : cur.instr.op ≡ op.Ret None → (new : List ℕ) (now : List Saved) (after : ℕ) (result : Turn) → GoesBack result None slots new frames now sp after → Turned p result at base after new now held byte byte s
    leave_means e new now after result goes = return_turned p s at base sp slots frames here.stands held byte here.agrees None (leave_gives p code s at (drop base slots) here.stands.frame cur e) live new now after result goes

    -- ---- what a cell did

    module _ (c : Cell) (cell_at : slice_get cells at ≡ Some c) (new : List ℕ) (after : ℕ → ℕ) (sp_after : ℕ) (result : Did) (below : take base new ≡ take base slots) (long : length new ≡ length slots)
        (acted : Acted big pointer code (record { regions = regions; held = held; byte = byte; after = after; sp = sp; sp_after = sp_after }) (drop base slots) (drop base new) result c) where
      abbrev b : Beside
      b = record { regions = regions; held = held; byte = byte; after = after; sp = sp; sp_after = sp_after }

      pub says : Says p code cur.instr at (drop base slots) (drop base new) sp sp_after held byte after s (row p s) result
      says =
          let plain : Acted a.layout.big a.layout.pointer code b (drop base slots) (drop base new) result cur.cell =
          subst (λ (c : Cell). Acted a.layout.big a.layout.pointer code b (drop base slots) (drop base new) result c) (cell_is c cell_at)
          (subst (λ (k : ℕ). Acted a.layout.big k code b (drop base slots) (drop base new) result c) facts.width
          (subst (λ (o : Bool). Acted o pointer code b (drop base slots) (drop base new) result c) facts.order acted)) in
          subst (λ (r : Row). Says p code cur.instr at (drop base slots) (drop base new) sp sp_after held byte after s r result) (sym cur.row_is)
          (cell_says p formed (table_is a.«module» a.layout a.sizes facts.sound) code cur.instr s at (drop base slots) here.stands.frame cur.from cur.from_is cur.blocks cur.fits cur.live b refl here.stands.sp_is here.agrees (drop base new) cur.cell result cur.means plain)

      pub gone_turned : (to : ℕ) → HasGone p to (drop base new) sp_after held after s (row p s) → HasTurned p to base sp_after new frames held after s
      gone_turned to gone = record {
        state = gone.state;
        call = None;
        next = gone.next;
        cost = gone.cost;
        stands = record {
          inside = omega (arith, long, here.stands.inside);
          frame = gone.frame;
          callers = subst (λ (l : List ℕ). AreWaiting p gone.state.frame.saved gone.state.callers frames l) (sym below)
              (subst (λ (k : ℕ). AreWaiting p k gone.state.callers frames (take base slots)) (sym gone.saved) (subst (λ (l : List Frame). AreWaiting p s.frame.saved l frames (take base slots)) (sym gone.callers) here.stands.callers));
          sp_is = gone.sp_is;
        };
        heap = gone.heap;
        input = gone.input;
        agrees = gone.agrees;
        present = gone.present;
      }

      -- nothing changed
      pub still_stands : IsSame (drop base slots) (drop base new) byte after sp sp_after → Stands p at base sp_after new frames s
      still_stands same = subst (λ (k : ℕ). Stands p at base k new frames s) (sym same.stack) (subst (λ (l : List ℕ). Stands p at base sp l frames s) (sym (joined base slots new below same.slots)) here.stands)

      pub still_here : IsSame (drop base slots) (drop base new) byte after sp sp_after → IsHere p at base sp_after new frames held after s
      still_here same = record { stands = still_stands same; agrees = subst (λ (f : ℕ → ℕ). Agrees held f s.byte) (sym same.bytes) here.agrees; never = here.never }

      pub still : IsSame (drop base slots) (drop base new) byte after sp sp_after → IsStill p at base sp_after new frames byte after s
      still same = record { stands = still_stands same; bytes = same.bytes }

  -- the instruction is the same, whatever the slots
  pub instr_same : (at base sp : ℕ) (slots : List ℕ) (frames : List Saved) (held : ℕ → Bool) (byte : ℕ → ℕ) (s : State) (here : IsHere p at base sp slots frames held byte s) (sp' : ℕ) (slots' : List ℕ) (byte' : ℕ → ℕ) (here' : IsHere p at base sp' slots' frames held byte' s)
      → (cur at base sp slots frames held byte s here).instr ≡ (cur at base sp' slots' frames held byte' s here').instr
  instr_same at base sp slots frames held byte s here sp' slots' byte' here' =
      let one = cur at base sp slots frames held byte s here in
      let other = cur at base sp' slots' frames held byte' s here' in
      same_Some one.instr other.instr (sym one.instr_is ∙ other.instr_is)

  -- ---- arms of a turn

  abbrev IsPlain : Did → Type 0
  IsPlain (did.Calls into f first last) = ⊥
  IsPlain (did.Returns x) = ⊥
  IsPlain did.Leaves = ⊥
  IsPlain _ = Unit {0}

  -- the turn of what a cell did
  abbrev pub turn_of : Did → ℕ → ℕ → Turn
  turn_of did.Next at base = turn.On (at + 1) base
  turn_of (did.To target) at base = turn.On target base
  turn_of (did.Trapped t) at base = turn.Halt 0 0 (stop.Trapped t)
  turn_of (did.WantPage page) at base = turn.Halt 0 0 (stop.WantPage page)
  turn_of did.NoMemory at base = turn.Halt 0 0 stop.NoMemory
  turn_of _ at base = turn.Halt 0 0 stop.Outside

  module _ (at base sp : ℕ) (slots : List ℕ) (frames : List Saved) (held : ℕ → Bool) (byte : ℕ → ℕ) (c : Cell) (cell_at : slice_get cells at ≡ Some c) (new : List ℕ) (after : ℕ → ℕ) (sp_after : ℕ) (below : take base new ≡ take base slots) (long : length new ≡ length slots) where
    abbrev Acts : Did → Type 0
    Acts result = Acted big pointer code (record { regions = regions; held = held; byte = byte; after = after; sp = sp; sp_after = sp_after }) (drop base slots) (drop base new) result c

    pub plain_turned : (result : Did) → IsPlain result → Acts result → (s : State) (here : IsHere p at base sp slots frames held byte s) → Turned p (turn_of result at base) at base sp_after new frames held byte after s
    plain_turned did.Next plain acted s here = gone_turned at base sp slots frames held byte s here c cell_at new after sp_after did.Next below long acted (at + 1) (says at base sp slots frames held byte s here c cell_at new after sp_after did.Next below long acted)
    plain_turned (did.To target) plain acted s here = gone_turned at base sp slots frames held byte s here c cell_at new after sp_after (did.To target) below long acted target (says at base sp slots frames held byte s here c cell_at new after sp_after (did.To target) below long acted)
    plain_turned (did.Trapped t) plain acted s here =
        let m = says at base sp slots frames held byte s here c cell_at new after sp_after (did.Trapped t) below long acted in
        (m.0, still at base sp slots frames held byte s here c cell_at new after sp_after (did.Trapped t) below long acted m.1)
    plain_turned (did.WantPage page) plain acted s here =
        let m = says at base sp slots frames held byte s here c cell_at new after sp_after (did.WantPage page) below long acted in
        ((m.0, m.1), still at base sp slots frames held byte s here c cell_at new after sp_after (did.WantPage page) below long acted m.2)
    plain_turned did.NoMemory plain acted s here =
        (tt, still at base sp slots frames held byte s here c cell_at new after sp_after did.NoMemory below long acted (says at base sp slots frames held byte s here c cell_at new after sp_after did.NoMemory below long acted))
    plain_turned (did.CallsAt into first last) plain acted s here =
        let m = says at base sp slots frames held byte s here c cell_at new after sp_after (did.CallsAt into first last) below long acted in
        let one = cur at base sp slots frames held byte s here in (
          record { instr = one.instr; is = one.instr_is; result = m.0.t; callee = m.0.callee; arguments = m.0.given; calls = m.0.is },
          still at base sp slots frames held byte s here c cell_at new after sp_after (did.CallsAt into first last) below long acted m.1,
        )
    plain_turned (did.Calls into f first last) plain acted s here = absurd plain
    plain_turned (did.Returns x) plain acted s here = absurd plain
    plain_turned did.Leaves plain acted s here = absurd plain

    module _ (s : State) (here : IsHere p at base sp slots frames held byte s) where
      -- calls
      module _ (into f first last : ℕ) (acted : Acts (did.Calls into f first last)) where
        called_says : IsCall (source_of p) (length s.frame.registers) code into f first last (cur at base sp slots frames held byte s here).instr × IsSame (drop base slots) (drop base new) byte after sp sp_after
        called_says = says at base sp slots frames held byte s here c cell_at new after sp_after (did.Calls into f first last) below long acted

        called_here : IsHere p at base sp_after new frames held after s
        called_here = still_here at base sp slots frames held byte s here c cell_at new after sp_after (did.Calls into f first last) below long acted called_says.1

        called_is : IsCall (source_of p) (length s.frame.registers) code into f first last (cur at base sp_after new frames held after s called_here).instr
        called_is = subst (IsCall (source_of p) (length s.frame.registers) code into f first last) (instr_same at base sp slots frames held byte s here sp_after new after called_here) called_says.0

        pub arm_needs : IsReadyCall code declared (drop base new) at f first last
        arm_needs = call_needs at base sp_after new frames held after s called_here into f first last called_is

        pub arm_means : (now' : List ℕ) (now : List Saved) (sp' : ℕ) (result : Turn) → ((z : IsReadyCall code declared (drop base new) at f first last) → Called result code z.outside z.home z.callee at base into first last new now' frames now sp_after sp')
            → Turned p result at base sp' now' now held byte after s
        arm_means now' now sp' result called =
            turned_bytes p result at base sp' now' now held byte after s called_says.1.bytes (call_means at base sp_after new frames held after s called_here into f first last called_is now' now sp' result called)

      -- returns of a value
      module _ (x : ℕ) (acted : Acts (did.Returns x)) where
        returned_says : IsReturn p (length s.frame.registers) code x (cur at base sp slots frames held byte s here).instr × IsSame (drop base slots) (drop base new) byte after sp sp_after
        returned_says = says at base sp slots frames held byte s here c cell_at new after sp_after (did.Returns x) below long acted

        returned_here : IsHere p at base sp_after new frames held after s
        returned_here = still_here at base sp slots frames held byte s here c cell_at new after sp_after (did.Returns x) below long acted returned_says.1

        returned_is : IsReturn p (length s.frame.registers) code x (cur at base sp_after new frames held after s returned_here).instr
        returned_is = subst (IsReturn p (length s.frame.registers) code x) (instr_same at base sp slots frames held byte s here sp_after new after returned_here) returned_says.0

        pub back_slot : IsSlotIn (drop base new) constants x
        back_slot = subst (λ (cs : List ℕ). IsSlotIn (drop base new) cs x) (sym facts.constants_are) (return_needs at base sp_after new frames held after s returned_here x returned_is).0

        pub back_needs : IsReadyReturn new frames
        back_needs = (return_needs at base sp_after new frames held after s returned_here x returned_is).1

        pub back_means : (v : ℕ) → v ≡ value_in (drop base new) constants x → (now' : List ℕ) (now : List Saved) (sp' : ℕ) (result : Turn) → GoesBack result (Some v) new now' frames now sp_after sp' → Turned p result at base sp' now' now held byte after s
        back_means v is now' now sp' result goes =
            turned_bytes p result at base sp' now' now held byte after s returned_says.1.bytes
            (return_means at base sp_after new frames held after s returned_here x returned_is v (is ∙ ap (λ (cs : List ℕ). value_in (drop base new) cs x) facts.constants_are) now' now sp' result goes)

      -- returns of nothing
      module _ (acted : Acts did.Leaves) where
        left_says : ((cur at base sp slots frames held byte s here).instr.op ≡ op.Ret None) × IsSame (drop base slots) (drop base new) byte after sp sp_after
        left_says = says at base sp slots frames held byte s here c cell_at new after sp_after did.Leaves below long acted

        left_here : IsHere p at base sp_after new frames held after s
        left_here = still_here at base sp slots frames held byte s here c cell_at new after sp_after did.Leaves below long acted left_says.1

        left_is : (cur at base sp_after new frames held after s left_here).instr.op ≡ op.Ret None
        left_is = ap (λ (i : Instr). i.op) (sym (instr_same at base sp slots frames held byte s here sp_after new after left_here)) ∙ left_says.0

        pub left_needs : IsReadyReturn new frames
        left_needs = leave_needs at base sp_after new frames held after s left_here left_is

        pub left_means : (now' : List ℕ) (now : List Saved) (sp' : ℕ) (result : Turn) → GoesBack result None new now' frames now sp_after sp' → Turned p result at base sp' now' now held byte after s
        left_means now' now sp' result goes = turned_bytes p result at base sp' now' now held byte after s left_says.1.bytes (leave_means at base sp_after new frames held after s left_here left_is now' now sp' result goes)
