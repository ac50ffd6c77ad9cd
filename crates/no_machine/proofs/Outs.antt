-- Calls of functions, defined or not, within a budget.
use Rattle.std.proofs.Common.{◌≡◌, inl, inr, ℕ, ◌+◌, ◌≤◌, ◌<◌, nat_lt, if◌then◌else◌, Bool, true, false, IsTrue, List, [], ◌∷◌, ◌++◌, length, ◌^◌, drop, take, map, slice_get, slice_range, slice_set, Option, Some, None, refl, sym, ap, subst, ◌∙◌, append-nil, arith}
use Rattle.std.proofs.lemmas.Bool.{le-ltb}
use Rattle.std.proofs.lemmas.List.{length-drop}
use Rattle.no_ir.specs.declared.ending.Trap.{Trap}
use Rattle.no_ir.specs.declared.function.Function.{Function}
use Rattle.no_layout.specs.Memory.{Agrees}
use Rattle.no_layout.specs.Text.{is_formed}
use Rattle.no_layout.specs.declared.memory.Regions.{Regions}
use Rattle.no_module.specs.declared.external.External.{External}
use Rattle.no_module.specs.declared.external.External.TheVariants as external
use Rattle.no_module.specs.Externals.{external_of}
use Rattle.no_module.specs.Functions.{is_declared}
use Rattle.no_semantics.specs.Acting.{row}
use Rattle.no_semantics.specs.Access.{allocated}
use Rattle.no_semantics.specs.Calls.{addressed_from, entered, invoked, mapped, row_external}
use Rattle.no_semantics.specs.Control.{arrived}
use Rattle.no_semantics.specs.Results.{Valued, Number, Traps, NoValue}
use Rattle.no_semantics.specs.Registers.{given}
use Rattle.no_semantics.specs.Rows.{Row, affordable, computed, going, needed, stuck, trapping, unfinished}
use Rattle.no_semantics.specs.Spans.{AreHeld}
use Rattle.no_semantics.specs.States.{Frame, State, answered, assigned}
use Rattle.no_semantics.specs.Values.{Program}
use Rattle.no_code.specs.Slots.{IsInto}
use Rattle.no_code.specs.Whole.{IsCode}
use Rattle.no_code.specs.declared.code.Argument.{Argument}
use Rattle.no_code.specs.declared.code.Code.{Code}
use Rattle.no_machine.specs.Calling.{IsUntouched, argument_in, given_at}
use Rattle.no_machine.specs.Outside.{AreExternals, Around, DoesExternal, HasWent, HasYielded, Invoked, IsCalm, IsCalmly, IsOfLibrary, IsReadyInvoke, Outs, Serves, Stack, Yields, map_value, out_of, out_of_turn, room_value, value_of}
use Rattle.no_machine.specs.Slots.{IsSlotIn}
use Rattle.no_machine.specs.Standing.{AreWaiting, Stands, source_of}
use Rattle.no_machine.specs.Turning.{AreDeclared, Turned}
use Rattle.no_machine.specs.declared.frame.Saved.{Saved}
use Rattle.no_machine.specs.declared.out.Out.{Out}
use Rattle.no_machine.specs.declared.out.Out.TheVariants as out
use Rattle.no_machine.specs.declared.turn.Stop.TheVariants as stop
use Rattle.no_machine.specs.declared.turn.Turn.{Turn}
use Rattle.no_machine.specs.declared.turn.Turn.TheVariants as turn
use Rattle.no_machine.proofs.Branching.{into_low}
use Rattle.no_machine.proofs.Going.{Live, none_needed}
use Rattle.no_machine.proofs.Invoking.{AreRead, Invokes, call_ready, call_turns}
use Rattle.no_machine.proofs.Locating.{Current}
use Rattle.no_machine.proofs.Resuming.{given_length, given_take, resumes_at, untouched_stands}
use Rattle.no_machine.proofs.Serving.{told_outs}

-- what costs 1 is done within a budget of at least 1
pub afford : (left : ℕ) (r : Row) → r.cost ≡ 1 → 1 ≤ left → affordable left r ≡ r
afford left r one some = ap (λ (b : Bool). if b then unfinished r.sought else r) (ap (nat_lt left) one ∙ le-ltb left 1 some)

module _ (p : Program) (s : State) (at base sp : ℕ) (a : Around) (more : List ℕ) (left : ℕ) (some : 1 ≤ left) (heap_is : s.heap ≡ a.heap) (input_is : s.input ≡ a.env.input ++ more) (calm : IsCalm a) where
  -- a turn, beside which nothing changed, as what comes of an instruction
  pub turn_outs : (t : Turn) (sp' : ℕ) (new : List ℕ) (now : List Saved) → Turned p t at base sp' new now a.held a.byte a.byte s → Outs p (out_of_turn t) at base sp' new now a more s (affordable left (row p s))
  turn_outs (turn.On to there) sp' new now t =
      let same : affordable left (row p s) ≡ row p s = afford left (row p s) t.cost some in
      record {
        state = t.state;
        output = [];
        call = t.call;
        next = ap (λ (r : Row). r.next) same ∙ t.next;
        costs = ap (λ (r : Row). r.cost) same ∙ t.cost;
        stands = t.stands;
        blocks = t.heap ∙ heap_is ∙ sym calm.blocks;
        rest = t.input ∙ input_is ∙ ap (λ (l : List ℕ). l ++ more) (sym calm.rest);
        wrote = calm.wrote ∙ sym (append-nil a.env.output.items);
        agrees = subst (λ (f : ℕ → ℕ). Agrees a.held f t.state.byte) (sym calm.bytes) t.agrees;
        present = subst (λ (r : Row). AreHeld a.held (needed r)) (sym same) t.present;
      }
  turn_outs (turn.Halt _ _ stop.Grow) sp' new now t = record { stands = t.1.stands; calm = calm }
  turn_outs (turn.Halt _ _ stop.NoMemory) sp' new now t = record { stands = t.1.stands; calm = calm }
  turn_outs (turn.Halt _ _ (stop.Trapped trap)) sp' new now t =
      let e : affordable left (row p s) ≡ trapping trap = ap (affordable left) t.0 ∙ afford left (trapping trap) refl some in
      (ap (λ (r : Row). r.next) e, ap (λ (r : Row). r.cost) e, subst (λ (r : Row). AreHeld a.held r.sought) (sym e) (none_needed a.held), record { stands = t.1.stands; calm = calm })
  turn_outs (turn.Halt _ _ (stop.WantPage page)) sp' new now t = record { stands = t.1.stands; calm = calm }
  turn_outs (turn.Halt _ _ (stop.Left v)) sp' new now t = record { stands = t.1.stands; calm = calm }
  turn_outs (turn.Halt _ _ stop.Outside) sp' new now t = record { stands = t.1.stands; calm = calm }
  turn_outs (turn.Halt _ _ stop.Spent) sp' new now t = record { stands = t.1.stands; calm = calm }

-- ---- externals that give a value at once

answered_number : (result : Option ℕ) (n : ℕ) (f : Frame) → answered result (Some n) f ≡ Some (assigned result n f)
answered_number None n f = refl
answered_number (Some r) n f = refl

room_row : (p : Program) (into : Option ℕ) (ns : List ℕ) (s : State) → row_external p into external.Alloca ns s ≡ allocated into (room_value s.sp ns) s
room_row p into [] s = refl
room_row p into (n ∷ []) s = refl
room_row p into (n ∷ size ∷ []) s = refl
room_row p into (n ∷ size ∷ align ∷ []) s = refl
room_row p into (n ∷ size ∷ align ∷ b ∷ more) s = refl

number_row : (into : Option ℕ) (n : ℕ) (s : State) → arrived s (answered into (Some n) s.frame) ≡ computed into (Number n) s
number_row None n s = refl
number_row (Some r) n s = refl

map_row : (p : Program) (into : Option ℕ) (ns : List ℕ) (s : State) → row_external p into external.Map ns s ≡ computed into (map_value p.«module».functions ns) s
map_row p into [] s = refl
map_row p into (at ∷ []) s = number_row into (mapped (addressed_from 0 p.«module».functions at)) s
map_row p into (at ∷ b ∷ more) s = refl

module _ (p : Program) (code : Code) (s : State) (at base sp : ℕ) (slots : List ℕ) (frames : List Saved) (st : Stands p at base sp slots frames s) (cur : Current p code s at (drop base slots) st.frame) (into : ℕ) (result : IsInto (length s.frame.registers) cur.instr.result into)
    (a : Around) (more : List ℕ) (left : ℕ) (some : 1 ≤ left) (heap_is : s.heap ≡ a.heap) (input_is : s.input ≡ a.env.input ++ more) (agrees : Agrees a.held a.byte s.byte) (calm : IsCalm a) (new : List ℕ) (now : List Saved) (after : ℕ) where
  abbrev R : Row
  R = affordable left (row p s)

  abbrev K : Stack
  K = record { slots = slots; new = new; frames = frames; now = now; sp = sp; after = after }

  -- the state behind the call
  abbrev behind : ℕ → ℕ → State
  behind n sp' = record s { frame = assigned cur.instr.result n s.frame; sp = sp' }

  stands_behind : (n sp' : ℕ) → Stands p (at + 1) base sp' (slice_set slots (base + into) n) frames (behind n sp')
  stands_behind n sp' =
      let f : Frame = assigned cur.instr.result n s.frame in
      let resumes = resumes_at p s.frame f at into base cur.instr.result (Some n) slots (answered_number cur.instr.result n s.frame) result st.frame in
      record {
        inside = omega (arith, given_length (Some n) (base + into) slots, st.inside);
        frame = resumes.0;
        callers = subst (λ (l : List ℕ). AreWaiting p f.saved s.callers frames l) (sym (given_take (Some n) base into slots)) (subst (λ (k : ℕ). AreWaiting p k s.callers frames (take base slots)) (sym resumes.1) st.callers);
        sp_is = refl;
      }

  went : (to there cost : ℕ) (value : Valued) (sp_after : ℕ → ℕ) → HasYielded value sp_after at base (base + into) to there cost K → ((n : ℕ) → value ≡ Number n → row p s ≡ going (behind n (sp_after n))) → HasWent p to there cost after new now a more R
  went to there cost value sp_after y row_is =
      let n : ℕ = y.number in
      let e : row p s ≡ going (behind n (sp_after n)) = row_is n y.is in
      let same : R ≡ going (behind n (sp_after n)) = afford left (row p s) (ap (λ (r : Row). r.cost) e) some ∙ e in
      record {
        state = behind n (sp_after n);
        output = [];
        call = None;
        next = ap (λ (r : Row). r.next) same;
        costs = ap (λ (r : Row). r.cost) same ∙ sym y.one;
        stands = subst (λ (k : ℕ). Stands p k there after new now (behind n (sp_after n))) (sym y.next)
            (subst (λ (k : ℕ). Stands p (at + 1) k after new now (behind n (sp_after n))) (sym y.same_base)
            (subst (λ (k : ℕ). Stands p (at + 1) base k new now (behind n (sp_after n))) (sym y.stack)
            (subst (λ (l : List ℕ). Stands p (at + 1) base (sp_after n) l now (behind n (sp_after n))) (sym y.given)
            (subst (λ (l : List Saved). Stands p (at + 1) base (sp_after n) (slice_set slots (base + into) n) l (behind n (sp_after n))) (sym y.same_frames) (stands_behind n (sp_after n))))));
        blocks = heap_is ∙ sym calm.blocks;
        rest = input_is ∙ ap (λ (l : List ℕ). l ++ more) (sym calm.rest);
        wrote = calm.wrote ∙ sym (append-nil a.env.output.items);
        agrees = subst (λ (f : ℕ → ℕ). Agrees a.held f s.byte) (sym calm.bytes) agrees;
        present = subst (λ (r : Row). AreHeld a.held (needed r)) (sym same) (none_needed a.held);
      }

  still : IsUntouched slots new frames now sp after → IsCalmly p at base after new now a s
  still same = record { stands = untouched_stands p at base sp after slots new frames now s same st; calm = calm }

  -- a value that was given, a trap or none, as what comes of an instruction of such a row
  pub yields_outs : (value : Valued) (sp_after : ℕ → ℕ) → ((n : ℕ) → value ≡ Number n → row p s ≡ going (behind n (sp_after n))) → ((t : Trap) → value ≡ Traps t → row p s ≡ trapping t) → (value ≡ NoValue → row p s ≡ stuck)
      → (what : Out) → Yields value sp_after at base (base + into) K what → Outs p what at base after new now a more s R
  yields_outs value sp_after goes traps none (out.On to there cost) y = went to there cost value sp_after y goes
  yields_outs value sp_after goes traps none (out.Trapped t) y =
      let e : R ≡ trapping t = ap (affordable left) (traps t y.0) ∙ afford left (trapping t) refl some in
      (ap (λ (r : Row). r.next) e, ap (λ (r : Row). r.cost) e, subst (λ (r : Row). AreHeld a.held r.sought) (sym e) (none_needed a.held), still y.1)
  yields_outs value sp_after goes traps none out.Stuck y = ap (λ (r : Row). r.next) (ap (affordable left) (none y) ∙ afford left stuck refl some)
  yields_outs value sp_after goes traps none out.NoMemory y = still y
  yields_outs value sp_after goes traps none (out.Exited status) y = absurd y
  yields_outs value sp_after goes traps none out.Over y = absurd y
  yields_outs value sp_after goes traps none (out.WantPage page) y = absurd y
  yields_outs value sp_after goes traps none out.WantInput y = absurd y
  yields_outs value sp_after goes traps none out.Grow y = absurd y

-- ---- calls of functions

external_row : (p : Program) (into : Option ℕ) (k : ℕ) (ns : List ℕ) (s : State) (g : Function) (o : Option External) → is_declared g ≡ true → external_of p.role g ≡ o → invoked p into k ns s g ≡ given stuck o (λ e. row_external p into e ns s)
external_row p into k ns s g o e f = ap (λ (b : Bool). if b then given stuck (external_of p.role g) (λ x. row_external p into x ns s) else entered k g ns s) e ∙ ap (λ (x : Option External). given stuck x (λ y. row_external p into y ns s)) f

module _ (p : Program) (formed : IsTrue (is_formed p.layout)) (code : Code) (is : IsCode (source_of p) code) (declared : List Bool) (flags : AreDeclared p.«module» declared) (externals : List (Option External)) (table : AreExternals p.«module» p.role externals)
    (s : State) (at base sp : ℕ) (slots : List ℕ) (frames : List Saved) (st : Stands p at base sp slots frames s) (cur : Current p code s at (drop base slots) st.frame) (live : Live (row p s)) (into f from to : ℕ) (known : Invokes p formed code s cur.instr into f from to) where
  read_here : AreRead p formed code s.frame.registers (drop base slots) st.frame.covers (slice_range code.arguments from to) known.numbers
  read_here = known.read (drop base slots) st.frame.covers

  pub each_here : (k : ℕ) (x : Argument) → slice_get (slice_range code.arguments from to) k ≡ Some x → IsSlotIn (drop base slots) code.constants x.slot
  each_here = read_here.each

  pub invoke_ready : at + 1 < 2 ^ 64 → IsReadyInvoke code declared externals slots at base into f from to
  invoke_ready next = record {
    inside = st.inside;
    next = next;
    call = call_ready p formed code is declared flags s at base sp slots frames st cur into f from to known;
    entry = external_of p.role known.function;
    entry_is = table f known.function known.function_is;
    place = omega (arith, into_low (length s.frame.registers) cur.instr.result into known.result, st.frame.covers.room, length-drop base slots, st.inside);
  }

  module _ (new : List ℕ) (now : List Saved) (after : ℕ) (a : Around) (more : List ℕ) (left : ℕ) (some : 1 ≤ left) (heap_is : s.heap ≡ a.heap) (input_is : s.input ≡ a.env.input ++ more) (agrees : Agrees a.held a.byte s.byte) (last : a.env.ended ≡ true → more ≡ [])
      (q : Regions) (held' own own' : ℕ → Bool) (result : Out) where
    abbrev Goal : Type 0
    Goal = Outs p result at base after new now a more s (affordable left (row p s))

    abbrev k : Stack
    k = record { slots = slots; new = new; frames = frames; now = now; sp = sp; after = after }

    abbrev numbers_in : List ℕ
    numbers_in = map (argument_in (drop base slots) code.constants) (slice_range code.arguments from to)

    room_outs : row p s ≡ row_external p cur.instr.result external.Alloca known.numbers s → IsCalm a → Yields (room_value sp numbers_in) (λ n. n) at base (base + into) k result → Goal
    room_outs e calm y =
        let is : row p s ≡ allocated cur.instr.result (room_value sp numbers_in) s =
        e ∙ room_row p cur.instr.result known.numbers s ∙ ap (λ (q : ℕ). allocated cur.instr.result (room_value q known.numbers) s) st.sp_is ∙ ap (λ (l : List ℕ). allocated cur.instr.result (room_value sp l) s) (sym read_here.are) in
        yields_outs p code s at base sp slots frames st cur into known.result a more left some heap_is input_is agrees calm new now after (room_value sp numbers_in) (λ n. n)
        (λ n v. is ∙ ap (λ (x : Valued). allocated cur.instr.result x s) v) (λ t v. is ∙ ap (λ (x : Valued). allocated cur.instr.result x s) v) (λ v. is ∙ ap (λ (x : Valued). allocated cur.instr.result x s) v) result y

    map_outs : row p s ≡ row_external p cur.instr.result external.Map known.numbers s → IsCalm a → Yields (map_value p.«module».functions numbers_in) (λ n. sp) at base (base + into) k result → Goal
    map_outs e calm y =
        let is : row p s ≡ computed cur.instr.result (map_value p.«module».functions numbers_in) s =
        e ∙ map_row p cur.instr.result known.numbers s ∙ ap (λ (l : List ℕ). computed cur.instr.result (map_value p.«module».functions l) s) (sym read_here.are) in
        yields_outs p code s at base sp slots frames st cur into known.result a more left some heap_is input_is agrees calm new now after (map_value p.«module».functions numbers_in) (λ n. sp)
        (λ n v. is ∙ ap (λ (x : Valued). computed cur.instr.result x s) v ∙ ap (λ (q : ℕ). going (record s { frame = assigned cur.instr.result n s.frame; sp = q })) st.sp_is)
        (λ t v. is ∙ ap (λ (x : Valued). computed cur.instr.result x s) v) (λ v. is ∙ ap (λ (x : Valued). computed cur.instr.result x s) v) result y

    library_outs : (which : External) → IsOfLibrary which → row p s ≡ row_external p cur.instr.result which known.numbers s
        → (now ≡ frames) × (after ≡ sp) × Serves which p.regions a.held own own' held' q a (map (argument_in (drop base slots) code.constants) (slice_range code.arguments from to)) left at base into slots new result → Goal
    library_outs which library row_is served = elim served.2 [
      | inl done ↦ (
          let ns = map (argument_in (drop base slots) code.constants) (slice_range code.arguments from to) in
          let e : row p s ≡ row_external p cur.instr.result which ns s = row_is ∙ ap (λ (l : List ℕ). row_external p cur.instr.result which l s) (sym read_here.are) in
          let outs = told_outs p code s at base sp slots frames st cur into known.result which library ns left some e a q held' own own' more heap_is input_is agrees last done.told done.means in
          subst (λ (o : Out). Outs p o at base after new now a more s (affordable left (row p s))) (sym done.is)
          (subst (λ (l : List ℕ). Outs p (out_of done.told at base) at base after l now a more s (affordable left (row p s))) (sym done.given)
          (subst (λ (l : List Saved). Outs p (out_of done.told at base) at base after (given_at (value_of done.told) (base + into) slots) l a more s (affordable left (row p s))) (sym served.0)
          (subst (λ (n : ℕ). Outs p (out_of done.told at base) at base n (given_at (value_of done.told) (base + into) slots) frames a more s (affordable left (row p s))) (sym served.1) outs)))
          )
      | inr none ↦ subst (λ (o : Out). Outs p o at base after new now a more s (affordable left (row p s))) (sym none.0)
          (record { stands = untouched_stands p at base sp after slots new frames now s (record { same_slots = none.1; same_frames = served.0; same_stack = served.1 }) st; calm = none.2 })
    ]

    declared_outs : (entry : Option External) → external_of p.role known.function ≡ entry → is_declared known.function ≡ true → DoesExternal entry p.«module».functions p.regions q a.held held' own own' code left at base into from to k a result → Goal
    declared_outs None e d does = absurd (subst Live (known.row_is ∙ external_row p cur.instr.result f known.numbers s known.function None d e) live refl)
    declared_outs (Some external.Alloca) e d does = room_outs (known.row_is ∙ external_row p cur.instr.result f known.numbers s known.function (Some external.Alloca) d e) does.0 does.1
    declared_outs (Some external.Map) e d does = map_outs (known.row_is ∙ external_row p cur.instr.result f known.numbers s known.function (Some external.Map) d e) does.0 does.1
    declared_outs (Some external.GetChar) e d does = library_outs external.GetChar tt (known.row_is ∙ external_row p cur.instr.result f known.numbers s known.function (Some external.GetChar) d e) does
    declared_outs (Some external.PutChar) e d does = library_outs external.PutChar tt (known.row_is ∙ external_row p cur.instr.result f known.numbers s known.function (Some external.PutChar) d e) does
    declared_outs (Some external.Puts) e d does = library_outs external.Puts tt (known.row_is ∙ external_row p cur.instr.result f known.numbers s known.function (Some external.Puts) d e) does
    declared_outs (Some external.Malloc) e d does = library_outs external.Malloc tt (known.row_is ∙ external_row p cur.instr.result f known.numbers s known.function (Some external.Malloc) d e) does
    declared_outs (Some external.Calloc) e d does = library_outs external.Calloc tt (known.row_is ∙ external_row p cur.instr.result f known.numbers s known.function (Some external.Calloc) d e) does
    declared_outs (Some external.Free) e d does = library_outs external.Free tt (known.row_is ∙ external_row p cur.instr.result f known.numbers s known.function (Some external.Free) d e) does
    declared_outs (Some external.Exit) e d does = library_outs external.Exit tt (known.row_is ∙ external_row p cur.instr.result f known.numbers s known.function (Some external.Exit) d e) does
    declared_outs (Some external.Abort) e d does = library_outs external.Abort tt (known.row_is ∙ external_row p cur.instr.result f known.numbers s known.function (Some external.Abort) d e) does
    declared_outs (Some external.Move) e d does = library_outs external.Move tt (known.row_is ∙ external_row p cur.instr.result f known.numbers s known.function (Some external.Move) d e) does
    declared_outs (Some external.Set) e d does = library_outs external.Set tt (known.row_is ∙ external_row p cur.instr.result f known.numbers s known.function (Some external.Set) d e) does
    declared_outs (Some external.Hint) e d does = library_outs external.Hint tt (known.row_is ∙ external_row p cur.instr.result f known.numbers s known.function (Some external.Hint) d e) does
    declared_outs (Some (external.Swap w)) e d does = library_outs (external.Swap w) tt (known.row_is ∙ external_row p cur.instr.result f known.numbers s known.function (Some (external.Swap w)) d e) does
    declared_outs (Some (external.UMin w)) e d does = library_outs (external.UMin w) tt (known.row_is ∙ external_row p cur.instr.result f known.numbers s known.function (Some (external.UMin w)) d e) does
    declared_outs (Some (external.UMax w)) e d does = library_outs (external.UMax w) tt (known.row_is ∙ external_row p cur.instr.result f known.numbers s known.function (Some (external.UMax w)) d e) does
    declared_outs (Some (external.SMin w)) e d does = library_outs (external.SMin w) tt (known.row_is ∙ external_row p cur.instr.result f known.numbers s known.function (Some (external.SMin w)) d e) does
    declared_outs (Some (external.SMax w)) e d does = library_outs (external.SMax w) tt (known.row_is ∙ external_row p cur.instr.result f known.numbers s known.function (Some (external.SMax w)) d e) does

    invoked_as : (outside : Bool) → is_declared known.function ≡ outside → Invoked outside (external_of p.role known.function) p.«module».functions p.regions q a.held held' own own' code declared left at base into f from to k a result → Goal
    invoked_as false e one =
        subst (λ (o : Out). Outs p o at base after new now a more s (affordable left (row p s))) (sym one.is)
        (turn_outs p s at base sp a more left some heap_is input_is one.calm one.answer after new now
        (call_turns p formed code is declared flags s at base sp slots frames st cur into f from to known live a.held a.byte agrees new now after one.answer one.called))
    invoked_as true e does = declared_outs (external_of p.role known.function) refl e does

    pub invoked_outs : ((outside : Bool) → slice_get declared f ≡ Some outside → (entry : Option External) → slice_get externals f ≡ Some entry → Invoked outside entry p.«module».functions p.regions q a.held held' own own' code declared left at base into f from to k a result) → Goal
    invoked_outs all = invoked_as (is_declared known.function) refl (all (is_declared known.function) (flags f known.function known.function_is) (external_of p.role known.function) (table f known.function known.function_is))
