-- Calls of functions by their names mean their instructions.
use Rattle.std.proofs.Common.{◌≡◌, ℕ, zero, suc, ◌+◌, ◌-◌, ◌<◌, ◌≤◌, ◌∷◌, ◌==◌, nat_lt, if◌then◌else◌, inl, inr, Bool, true, false, IsTrue, List, [], map, length, take, drop, replicate, slice_get, slice_range, slice_set, Option, Some, None, refl, sym, ap, subst, ◌∙◌, arith, rules}
use Rattle.std.specs.List.{list_all}
use Rattle.std.proofs.lemmas.Bool.{and_parts, cases_Bool, eqb-true, le-ltb, lt-ltb}
use Rattle.std.proofs.lemmas.List.{length-drop, length-take-le}
use Rattle.std.proofs.lemmas.Option.{same_Some}
use Rattle.no_ir.specs.declared.constant.Const.{Const, out-Const, the_lemmas}
use Rattle.no_ir.specs.declared.constant.Const.TheVariants as const
use Rattle.no_ir.specs.declared.constant.Symbol.{Symbol}
use Rattle.no_ir.specs.declared.constant.Symbol.TheVariants as symbol
use Rattle.no_ir.specs.declared.types.Ty.{Ty}
use Rattle.no_ir.specs.declared.function.Function.{Function}
use Rattle.no_ir.specs.declared.instruction.Instr.{Instr}
use Rattle.no_ir.specs.declared.instruction.Op.{Op}
use Rattle.no_ir.specs.declared.instruction.Op.TheVariants as op
use Rattle.no_ir.specs.declared.instruction.Operand.{Operand}
use Rattle.no_ir.specs.declared.instruction.Operand.TheVariants as operand'
use Rattle.no_ir.specs.declared.ending.Trap.TheVariants.{BadFunction, StackOverflow}
use Rattle.no_layout.specs.Memory.{Agrees, stack_start}
use Rattle.no_layout.specs.Text.{is_formed}
use Rattle.no_module.specs.Functions.{is_declared}
use Rattle.no_semantics.specs.Acting.{row, row_of_op}
use Rattle.no_semantics.specs.Calls.{arguments_of, at_address, call_room, callee_by, callee_value, called, calling, entered, entry_frame, invoked, passed, row_call, unassigned}
use Rattle.no_semantics.specs.Registers.{Registers, all_given, argument_of, given, pointer_of, with_front}
use Rattle.no_semantics.specs.Results.{Valued, Number, Traps, reading}
use Rattle.no_semantics.specs.Rows.{Row, Goes, needed, plain, stuck, trapping}
use Rattle.no_semantics.specs.Sound.{arg_fits, args_fit, is_scalar, op_fits, operand_fits}
use Rattle.no_semantics.specs.Spans.{AreHeld}
use Rattle.no_semantics.specs.States.{State, function_at, put}
use Rattle.no_semantics.specs.Values.{Program, width_of}
use Rattle.no_semantics.proofs.Scalars.{most, pointer_width, scalar_width, some}
use Rattle.no_verify_types.specs.Typing as typing
use Rattle.no_code.specs.Coded.{Each, IsArgument, IsCall, IsCallAt, before, block_size, direct, first_cell, total}
use Rattle.no_code.specs.Slots.{IsInto, first_constant}
use Rattle.no_code.specs.Whole.{HasHome, IsCode, IsParameter}
use Rattle.no_code.specs.declared.code.Argument.{Argument}
use Rattle.no_code.specs.declared.code.Code.{Code}
use Rattle.no_machine.specs.Calling.{Called, IsReadyCall, IsUntouched, argument_in, passed_to}
use Rattle.no_machine.specs.Slots.{IsSlotIn}
use Rattle.no_machine.specs.Standing.{AreWaiting, Covers, IsFrameAt, Stands, source_of}
use Rattle.no_machine.specs.Turning.{AreDeclared, IsStill, Turned}
use Rattle.no_machine.specs.declared.frame.Saved.{Saved}
use Rattle.no_machine.specs.declared.turn.Stop.TheVariants as stop
use Rattle.no_machine.specs.declared.turn.Turn.{Turn}
use Rattle.no_machine.specs.declared.turn.Turn.TheVariants as turn
use Rattle.no_machine.proofs.Entering.{caller_window}
use Rattle.no_machine.proofs.Framing.{covers_set, covers_take}
use Rattle.no_machine.proofs.Going.{Live, none_needed}
use Rattle.no_machine.proofs.Lists.{range_first, set_length, take_lower}
use Rattle.no_machine.proofs.Locating.{Current}
use Rattle.no_machine.proofs.Reading.{Reads, reads}
use Rattle.no_machine.proofs.Resuming.{untouched_stands}

-- ---- callees

bare_same : (indices : List Rattle.std.specs.Prelude.ℤ) (k : ℕ) → Rattle.no_code.specs.Coded.bare indices k ≡ typing.bare_function (symbol.Function k) (length indices)
bare_same [] k = refl
bare_same (i ∷ indices) k = elim (cases_Bool (length (i ∷ indices) == 0)) [
  | inl zero' ↦ absurd (omega (arith, eqb-true (length (i ∷ indices)) 0 zero'))
  | inr some' ↦ ap (λ (b : Bool). if b then Some k else None) (sym some')
]

constant_same : (c : Const) (k : ℕ) → Rattle.no_code.specs.Coded.constant_named c ≡ Some k → typing.named_step (out-Const c) ≡ Some k
constant_same (const.Address place) k e =
    let open' : typing.named_step (out-Const (const.Address place)) ≡ typing.bare_function place.symbol (length place.indices) = search (rules, the_lemmas) in
    open' ∙ symbol_same place.symbol e
  where
    symbol_same : (s : Symbol) → Rattle.no_code.specs.Coded.symbol_named s place.indices ≡ Some k → typing.bare_function s (length place.indices) ≡ Some k
    symbol_same (symbol.Function j) e = sym (bare_same place.indices j) ∙ e
    symbol_same _ e = absurd cc
constant_same _ k e = absurd cc

pub direct_same : (o : Operand) (k : ℕ) → direct o ≡ Some k → typing.direct o ≡ Some k
direct_same (operand'.Reg r) k e = absurd cc
direct_same (operand'.Const c) k e = constant_same c k e

constant_none : (c : Const) → Rattle.no_code.specs.Coded.constant_named c ≡ None → typing.named_step (out-Const c) ≡ None
constant_none (const.Address place) e =
    let open' : typing.named_step (out-Const (const.Address place)) ≡ typing.bare_function place.symbol (length place.indices) = search (rules, the_lemmas) in
    open' ∙ symbol_none place.symbol e
  where
    symbol_none : (s : Symbol) → Rattle.no_code.specs.Coded.symbol_named s place.indices ≡ None → typing.bare_function s (length place.indices) ≡ None
    symbol_none (symbol.Function j) e = sym (bare_same place.indices j) ∙ e
    symbol_none _ e = refl
constant_none _ e = search (rules, the_lemmas)

pub direct_none : (o : Operand) → direct o ≡ None → typing.direct o ≡ None
direct_none (operand'.Reg r) e = refl
direct_none (operand'.Const c) e = constant_none c e

-- ---- rows

call_row : (p : Program) (into : Option ℕ) (t : Ty) (callee : Operand) (args : List (Ty × Operand)) (s : State) (k : ℕ) → typing.direct callee ≡ Some k → row_call p into t callee args s ≡ calling p into (Number k) args s
unfolding row_call callee_value
call_row p into t callee args s k e = ap (λ (o : Option ℕ). calling p into (callee_by p s.frame.registers t callee args o) args s) e

pub calling_known : (p : Program) (into : Option ℕ) (k : ℕ) (args : List (Ty × Operand)) (s : State) → Live (calling p into (Number k) args s)
    → (ns : List ℕ) × (g : Function) × (arguments_of p s.frame.registers args ≡ Some ns) × (function_at p k ≡ Some g) × (calling p into (Number k) args s ≡ invoked p into k ns s g)
calling_known p into k args s live = of (arguments_of p s.frame.registers args) live
  where
    with_function : (ns : List ℕ) (o : Option Function) → Live (given stuck o (invoked p into k ns s)) → (g : Function) × (o ≡ Some g) × (given stuck o (invoked p into k ns s) ≡ invoked p into k ns s g)
    with_function ns None live = absurd (live refl)
    with_function ns (Some g) live = (g, refl, refl)

    of : (o : Option (List ℕ)) → Live (given stuck o (λ ns. given stuck (function_at p k) (invoked p into k ns s)))
        → (ns : List ℕ) × (g : Function) × (o ≡ Some ns) × (function_at p k ≡ Some g) × (given stuck o (λ ns. given stuck (function_at p k) (invoked p into k ns s)) ≡ invoked p into k ns s g)
    of None live = absurd (live refl)
    of (Some ns) live = (let f = with_function ns (function_at p k) live in (ns, f.0, refl, f.1, f.2))

pointer_row : (p : Program) (into : Option ℕ) (t : Ty) (callee : Operand) (args : List (Ty × Operand)) (s : State) → typing.direct callee ≡ None → row_call p into t callee args s ≡ calling p into (reading (pointer_of p s.frame.registers callee) (at_address p t args)) args s
unfolding row_call callee_value
pointer_row p into t callee args s e = ap (λ (o : Option ℕ). calling p into (callee_by p s.frame.registers t callee args o) args s) e

pointer_known : (p : Program) (into : Option ℕ) (o : Option ℕ) (make : ℕ → Valued) (args : List (Ty × Operand)) (s : State) → Live (calling p into (reading o make) args s) → (v : ℕ) × (o ≡ Some v)
pointer_known p into None make args s live = absurd (live refl)
pointer_known p into (Some v) make args s live = (v, refl)

-- ---- arguments

fronts : (o : Option ℕ) (os : Option (List ℕ)) (ns : List ℕ) → with_front o os ≡ Some ns → (n : ℕ) × (rest : List ℕ) × (o ≡ Some n) × (os ≡ Some rest) × (n ∷ rest ≡ ns)
fronts None os ns e = absurd cc
fronts (Some n) None ns e = absurd cc
fronts (Some n) (Some rest) ns e = (n, rest, refl, refl, same_Some (n ∷ rest) ns e)

module _ (p : Program) (formed : IsTrue (is_formed p.layout)) (code : Code) (registers : Registers) (window : List ℕ) (covers : Covers registers window) where
  -- slots hold the numbers of arguments
  pub record AreRead (xs : List Argument) (ns : List ℕ) : Type 0 where
    pub each : (k : ℕ) (a : Argument) → slice_get xs k ≡ Some a → IsSlotIn window code.constants a.slot
    pub are : map (argument_in window code.constants) xs ≡ ns

  read_all : (args : List (Ty × Operand)) (xs : List Argument) (ns : List ℕ) → list_all (arg_fits p.«module» p.layout p.sizes) args ≡ true → Each (IsArgument (source_of p) (length registers) code) args xs
      → all_given (map (argument_of p registers) args) ≡ Some ns → AreRead xs ns
  read_all [] [] ns fits each e = record { each = λ k a is. absurd cc; are = same_Some [] ns e }
  read_all [] (a ∷ xs) ns fits each e = absurd each
  read_all (x ∷ args) [] ns fits each e = absurd each
  read_all (x ∷ args) (a ∷ xs) ns fits each e =
      let parts = and_parts (arg_fits p.«module» p.layout p.sizes x) (list_all (arg_fits p.«module» p.layout p.sizes) args) fits in
      let both = and_parts (is_scalar x.0) (operand_fits p.«module» p.layout p.sizes x.1) parts.0 in
      let front = fronts (argument_of p registers x) (all_given (map (argument_of p registers) args)) ns e in
      let width = scalar_width p.layout x.0 formed both.0 in
      let w = width_of p.layout x.0 in
      let read : Reads window code.constants w a.slot front.0 = reads p registers window code.constants covers w a.slot front.0 x.1 (some w width) (most w width) both.1 each.0.0 front.2 in
      let rest = read_all args xs front.1 parts.1 each.1 front.3 in
      record {
        each = λ k b is. at k b is read.slot rest.each;
        are = (λ i. read.is i ∷ rest.are i) ∙ front.4;
      }
    where
      at : (k : ℕ) (b : Argument) → slice_get (a ∷ xs) k ≡ Some b → IsSlotIn window code.constants a.slot → ((k : ℕ) (b : Argument) → slice_get xs k ≡ Some b → IsSlotIn window code.constants b.slot) → IsSlotIn window code.constants b.slot
      at zero b is first rest = subst (λ (x : Argument). IsSlotIn window code.constants x.slot) (same_Some a b is) first
      at (suc k) b is first rest = rest k b is

  pub arguments_read : (args : List (Ty × Operand)) (xs : List Argument) (ns : List ℕ) → args_fit p.«module» p.layout p.sizes args ≡ true → Each (IsArgument (source_of p) (length registers) code) args xs → arguments_of p registers args ≡ Some ns → AreRead xs ns
  unfolding arguments_of
  arguments_read args xs ns fits each e = read_all args xs ns fits each e

-- ---- parameters

abbrev pub none : Option ℕ
none = None

pub none_there : (k r n : ℕ) → slice_get (replicate k none) r ≡ Some (Some n) → ⊥
none_there zero r n e = absurd cc
none_there (suc k) zero n e = absurd cc
none_there (suc k) (suc r) n e = none_there k r n e

none_length : (k : ℕ) → length (replicate k none) ≡ k
none_length zero = refl
none_length (suc k) = ap suc (none_length k)

pub covers_unassigned : (g : Function) (window : List ℕ) → length g.registers < first_constant → length g.registers < length window → Covers (unassigned g) window
covers_unassigned g window few room = record {
  few = omega (arith, few, none_length (length g.registers));
  room = omega (arith, room, none_length (length g.registers));
  each = λ r n e. absurd (none_there (length g.registers) r n e);
}

pub unassigned_length : (g : Function) → length (unassigned g) ≡ length g.registers
unassigned_length g = none_length (length g.registers)

pub passed_covers : (qs : List (ℕ × Ty)) (ps : List Argument) (ns : List ℕ) (registers to : Registers) (window : List ℕ) → Each IsParameter qs ps → passed qs ns registers ≡ Some to → Covers registers window
    → Covers to (passed_to ps ns window) × (length to ≡ length registers)
passed_covers [] [] [] registers to window each e c =
    let same = same_Some registers to e in (subst (λ (r : Registers). Covers r window) same c, ap length (sym same))
passed_covers [] [] (n ∷ ns) registers to window each e c = absurd cc
passed_covers [] (q ∷ ps) ns registers to window each e c = absurd each
passed_covers (q ∷ qs) [] ns registers to window each e c = absurd each
passed_covers (q ∷ qs) (a ∷ ps) [] registers to window each e c = absurd cc
passed_covers (q ∷ qs) (a ∷ ps) (n ∷ ns) registers to window each e c =
    let slot : a.slot ≡ q.0 = each.0.0 in
    let first : Covers (put q.0 n registers) (slice_set window a.slot n) = subst (λ (k : ℕ). Covers (put q.0 n registers) (slice_set window k n)) (sym slot) (covers_set registers window q.0 n c) in
    let rest = passed_covers qs ps ns (put q.0 n registers) to (slice_set window a.slot n) each.1 e first in
    (rest.0, rest.1 ∙ set_length registers q.0 (Some n))

pub total_zero : {A : Type 0} (size : A → ℕ) (xs : List A) → total size xs 0 ≡ 0
total_zero size [] = refl
total_zero size (x ∷ xs) = refl

entry_some : (k : ℕ) (g : Function) (ns : List ℕ) (saved sp : ℕ) (s : State) → Live (called k ns sp s (entry_frame k g ns saved))
    → (registers : Registers) × (passed g.params ns (unassigned g) ≡ Some registers)
    × (called k ns sp s (entry_frame k g ns saved) ≡ plain (Goes [] (Some (record { function = k; arguments = ns })) (record s { frame = record { function = k; block = 0; at = 0; registers = registers; saved = saved }; callers = s.frame ∷ s.callers; sp = sp })))
entry_some k g ns saved sp s live = of (passed g.params ns (unassigned g)) live
  where
    of : (o : Option Registers) → Live (called k ns sp s (given None o (λ registers. Some (record { function = k; block = 0; at = 0; registers = registers; saved = saved }))))
        → (registers : Registers) × (o ≡ Some registers)
        × (called k ns sp s (given None o (λ registers. Some (record { function = k; block = 0; at = 0; registers = registers; saved = saved }))) ≡ plain (Goes [] (Some (record { function = k; arguments = ns })) (record s { frame = record { function = k; block = 0; at = 0; registers = registers; saved = saved }; callers = s.frame ∷ s.callers; sp = sp })))
    of None live = absurd (live refl)
    of (Some registers) live = (registers, refl, refl)

-- ---- a call

-- what is known of a call of function f, whose arguments stand in a range
pub record Invokes (p : Program) (formed : IsTrue (is_formed p.layout)) (code : Code) (s : State) (i : Instr) (into f from to : ℕ) : Type 0 where
  pub numbers : List ℕ
  pub function : Function
  pub function_is : function_at p f ≡ Some function
  pub row_is : row p s ≡ invoked p i.result f numbers s function
  pub result : IsInto (length s.frame.registers) i.result into
  pub ordered : from ≤ to
  pub within : to ≤ length code.arguments
  pub read : (window : List ℕ) (covers : Covers s.frame.registers window) → AreRead p formed code s.frame.registers window covers (slice_range code.arguments from to) numbers
  pub t : Ty
  pub callee : Operand
  pub given' : List (Ty × Operand)
  pub calls : i.op ≡ op.Call t callee given'

pub invokes_by_name : (p : Program) (formed : IsTrue (is_formed p.layout)) (code : Code) (s : State) (at : ℕ) (window : List ℕ) (here : IsFrameAt p.«module» s.frame at window) (cur : Current p code s at window here) (into f from to : ℕ)
    → IsCall (source_of p) (length s.frame.registers) code into f from to cur.instr → Invokes p formed code s cur.instr into f from to
invokes_by_name p formed code s at window here cur into f from to r =
    let q : Op = op.Call r.t r.callee r.given in
    let ok : op_fits p.«module» p.layout p.sizes q ≡ true = subst (λ (z : Op). op_fits p.«module» p.layout p.sizes z ≡ true) r.is cur.fits in
    let e : row_of_op p cur.instr.result cur.instr.op s ≡ calling p cur.instr.result (Number f) r.given s = ap (λ (z : Op). row_of_op p cur.instr.result z s) r.is ∙ call_row p cur.instr.result r.t r.callee r.given s f (direct_same r.callee f r.names) in
    let k = calling_known p cur.instr.result f r.given s (subst Live e cur.live) in
    let fits = (and_parts (operand_fits p.«module» p.layout p.sizes r.callee) (args_fit p.«module» p.layout p.sizes r.given) ok).1 in
    record {
      numbers = k.0;
      function = k.1;
      function_is = k.3;
      row_is = cur.row_is ∙ e ∙ k.4;
      result = r.result;
      ordered = r.range.ordered;
      within = r.range.within;
      read = λ w low. subst (λ (l : List Argument). AreRead p formed code s.frame.registers w low l k.0) (sym r.range.is) (arguments_read p formed code s.frame.registers w low r.given r.arguments k.0 fits r.each k.2);
      t = r.t;
      callee = r.callee;
      given' = r.given;
      calls = r.is;
    }

module _ (p : Program) (formed : IsTrue (is_formed p.layout)) (code : Code) (is : IsCode (source_of p) code) (declared : List Bool) (flags : AreDeclared p.«module» declared) (s : State) (at base sp : ℕ) (slots : List ℕ) (frames : List Saved) (st : Stands p at base sp slots frames s)
    (cur : Current p code s at (drop base slots) st.frame) (into f from to : ℕ) (known : Invokes p formed code s cur.instr into f from to) where
  abbrev own : HasHome code s.frame.function st.frame.function (first_cell p.«module».functions s.frame.function)
  own = (is.functions s.frame.function st.frame.function st.frame.is).home

  abbrev callee : HasHome code f known.function (first_cell p.«module».functions f)
  callee = (is.functions f known.function known.function_is).home

  size : own.home.registers ≡ length s.frame.registers
  size = own.registers ∙ sym st.frame.long

  lower : Covers s.frame.registers (take (own.home.registers + 1) (drop base slots))
  lower = covers_take s.frame.registers (drop base slots) (own.home.registers + 1) (omega (arith, size)) (omega (arith, size, st.frame.covers.room)) st.frame.covers

  numbers_read : AreRead p formed code s.frame.registers (take (own.home.registers + 1) (drop base slots)) lower (slice_range code.arguments from to) known.numbers
  numbers_read = known.read (take (own.home.registers + 1) (drop base slots)) lower

  pub call_ready : IsReadyCall code declared (drop base slots) at f from to
  call_ready = record {
    home = own.home;
    home_is = record { place = cur.place; place_is = cur.place_is; is = ap (slice_get code.homes) cur.function_is ∙ own.is };
    room = omega (arith, size, st.frame.covers.room);
    callee = callee.home;
    callee_is = callee.is;
    outside = is_declared known.function;
    outside_is = flags f known.function known.function_is;
    ordered = known.ordered;
    within = known.within;
    params_ordered = callee.range.ordered;
    params_within = callee.range.within;
    each = numbers_read.each;
  }

  entered_row : is_declared known.function ≡ false → row p s ≡ entered f known.function known.numbers s
  entered_row e = known.row_is ∙ ap (λ (b : Bool). if b then given stuck (Rattle.no_module.specs.Externals.external_of p.role known.function) (λ x. Rattle.no_semantics.specs.Calls.row_external p cur.instr.result x known.numbers s) else entered f known.function known.numbers s) e

  module _ (live : Live (row p s)) (held : ℕ → Bool) (byte : ℕ → ℕ) (agrees : Agrees held byte s.byte) (new : List ℕ) (now : List Saved) (after : ℕ) where
    still : IsUntouched slots new frames now sp after → IsStill p at base after new now byte byte s
    still u = record { stands = untouched_stands p at base sp after slots new frames now s u st; bytes = refl }

    pub call_turned : (result : Turn) → Called result code (is_declared known.function) own.home callee.home at base into from to slots new frames now sp after → Turned p result at base after new now held byte byte s
    call_turned (turn.Halt _ _ stop.Outside) c = (record { instr = cur.instr; is = cur.instr_is; result = known.t; callee = known.callee; arguments = known.given'; calls = known.calls }, still c.1)
    call_turned (turn.Halt _ _ stop.Grow) c = (tt, still c)
    call_turned (turn.Halt _ _ stop.NoMemory) c = (tt, still c)
    call_turned (turn.Halt _ _ (stop.Trapped t)) c =
        let low : nat_lt s.sp (stack_start + call_room) ≡ true = ap (λ (k : ℕ). nat_lt k (stack_start + call_room)) st.sp_is ∙ lt-ltb sp (stack_start + call_room) c.1 in (
          entered_row c.0 ∙ ap (λ (b : Bool). if b then trapping StackOverflow else called f known.numbers (s.sp - call_room) s (entry_frame f known.function known.numbers s.sp)) low ∙ ap trapping (sym c.2),
          still c.3,
        )
    call_turned (turn.Halt _ _ (stop.WantPage q)) c = absurd c
    call_turned (turn.Halt _ _ (stop.Left v)) c = absurd c
    call_turned (turn.Halt _ _ stop.Spent) c = absurd c
    call_turned (turn.On start above) c =
        let high : nat_lt s.sp (stack_start + call_room) ≡ false = ap (λ (k : ℕ). nat_lt k (stack_start + call_room)) st.sp_is ∙ le-ltb sp (stack_start + call_room) c.high in
        let row_is : row p s ≡ called f known.numbers (s.sp - call_room) s (entry_frame f known.function known.numbers s.sp) =
        entered_row c.defined ∙ ap (λ (b : Bool). if b then trapping StackOverflow else called f known.numbers (s.sp - call_room) s (entry_frame f known.function known.numbers s.sp)) high in
        let entry = entry_some f known.function known.numbers s.sp (s.sp - call_room) s (subst Live row_is live) in
        let state : State = record s { frame = record { function = f; block = 0; at = 0; registers = entry.0; saved = s.sp }; callers = s.frame ∷ s.callers; sp = s.sp - call_room } in
        let goes : row p s ≡ plain (Goes [] (Some (record { function = f; arguments = known.numbers })) state) = row_is ∙ entry.2 in
        let above_is : above ≡ base + own.home.registers + 1 = c.above_is in
        let total_length : length (drop above slots) ≡ length slots - above = length-drop above slots in
        let free_room : length known.function.registers < length (drop above slots) = omega (arith, total_length, c.room, callee.registers) in
        let few : length known.function.registers < first_constant = omega (arith, c.few, callee.registers) in
        let window : drop base (take above slots) ≡ take (own.home.registers + 1) (drop base slots) = ap (λ (k : ℕ). drop base (take k slots)) above_is ∙ caller_window base own.home.registers slots in
        let numbers : map (argument_in (drop base (take above slots)) code.constants) (slice_range code.arguments from to) ≡ known.numbers =
        ap (λ (w : List ℕ). map (argument_in w code.constants) (slice_range code.arguments from to)) window ∙ numbers_read.are in
        let passed_is : drop above new ≡ passed_to callee.params known.numbers (drop above slots) =
        c.passed ∙ ap (λ (ns : List ℕ). passed_to (slice_range code.arguments callee.home.from callee.home.to) ns (drop above slots)) numbers ∙ ap (λ (l : List Argument). passed_to l known.numbers (drop above slots)) callee.range.is in
        let covered = passed_covers known.function.params callee.params known.numbers (unassigned known.function) entry.0 (drop above slots) callee.each entry.1 (covers_unassigned known.function (drop above slots) few free_room) in
        let above_low : above ≤ length slots = omega (arith, c.room) in
        let new_long : above ≤ length new = long_enough above slots new above_low c.below in
        let base_low : base ≤ above = omega (arith, above_is) in
        record {
          state = state;
          call = Some (record { function = f; arguments = known.numbers });
          next = ap (λ (z : Row). z.next) goes;
          cost = ap (λ (z : Row). z.cost) goes;
          stands = record {
            inside = new_long;
            frame = record {
              function = known.function;
              is = known.function_is;
              long = covered.1 ∙ unassigned_length known.function;
              place = omega (arith, c.start_is, callee.starts, total_zero block_size known.function.blocks);
              covers = subst (λ (w : List ℕ). Covers entry.0 w) (sym passed_is) covered.0;
            };
            callers = (
              frames,
              record { next = at + 1; base = base; into = into; sp = sp },
              c.kept,
              record {
                base = omega (arith, base_low, length-take-le above new new_long);
                at = at;
                next = refl;
                frame = subst (λ (w : List ℕ). IsFrameAt p.«module» s.frame at w) (sym (ap (drop base) c.below ∙ window)) (record {
                  function = st.frame.function;
                  is = st.frame.is;
                  long = st.frame.long;
                  place = st.frame.place;
                  covers = lower;
                });
                result = λ i e. subst (λ (z : Instr). IsInto (length s.frame.registers) z.result into) (same_Some cur.instr i (sym cur.instr_is ∙ e)) known.result;
                sp_is = sym st.sp_is;
              },
              subst (λ (l : List ℕ). AreWaiting p s.frame.saved s.callers frames l) (sym (ap (take base) c.below ∙ take_lower base above slots base_low)) st.callers,
            );
            sp_is = ap (λ (k : ℕ). k - call_room) st.sp_is ∙ sym c.stack;
          };
          heap = refl;
          input = refl;
          agrees = agrees;
          present = subst (λ (z : Row). AreHeld held (needed z)) (sym goes) (none_needed held);
        }
      where
        long_enough : (k : ℕ) (xs ys : List ℕ) → k ≤ length xs → take k ys ≡ take k xs → k ≤ length ys
        long_enough k xs ys le e = omega (arith, length-take-le k xs le, ap length e, taken_short k ys)
          where
            taken_short : (k : ℕ) (ys : List ℕ) → length (take k ys) ≤ length ys
            taken_short zero ys = omega arith
            taken_short (suc k) [] = omega arith
            taken_short (suc k) (y ∷ ys) = omega (arith, taken_short k ys)

    pub call_turns : (result : Turn) → ((z : IsReadyCall code declared (drop base slots) at f from to) → Called result code z.outside z.home z.callee at base into from to slots new frames now sp after) → Turned p result at base after new now held byte byte s
    unfolding call_ready
    call_turns result called = call_turned result (called call_ready)

-- what is known of a call through a pointer: where it leads is read in the first slot of the range
pub record Points (p : Program) (formed : IsTrue (is_formed p.layout)) (code : Code) (s : State) (window : List ℕ) (i : Instr) (into from to : ℕ) : Type 0 where
  pub t : Ty
  pub callee : Operand
  pub given' : List (Ty × Operand)
  pub is : i.op ≡ op.Call t callee given'
  pub first : Argument
  pub first_is : slice_get code.arguments from ≡ Some first
  pub some : from < to
  pub within : to ≤ length code.arguments
  pub address : ℕ
  pub read : Reads window code.constants p.layout.pointer first.slot address
  pub traps : at_address p t given' address ≡ Traps BadFunction → row p s ≡ trapping BadFunction
  pub leads : (k : ℕ) → at_address p t given' address ≡ Number k → Invokes p formed code s i into k (from + 1) to

pub points : (p : Program) (formed : IsTrue (is_formed p.layout)) (code : Code) (s : State) (at : ℕ) (window : List ℕ) (here : IsFrameAt p.«module» s.frame at window) (cur : Current p code s at window here) (into from to : ℕ)
    → IsCallAt (source_of p) (length s.frame.registers) code into from to cur.instr → Points p formed code s window cur.instr into from to
points p formed code s at window here cur into from to r =
    let q : Op = op.Call r.t r.callee r.given in
    let ok : op_fits p.«module» p.layout p.sizes q ≡ true = subst (λ (z : Op). op_fits p.«module» p.layout p.sizes z ≡ true) r.is cur.fits in
    let parts = and_parts (operand_fits p.«module» p.layout p.sizes r.callee) (args_fit p.«module» p.layout p.sizes r.given) ok in
    let e : row_of_op p cur.instr.result cur.instr.op s ≡ calling p cur.instr.result (reading (pointer_of p s.frame.registers r.callee) (at_address p r.t r.given)) r.given s =
    ap (λ (z : Op). row_of_op p cur.instr.result z s) r.is ∙ pointer_row p cur.instr.result r.t r.callee r.given s (direct_none r.callee r.names) in
    let known = pointer_known p cur.instr.result (pointer_of p s.frame.registers r.callee) (at_address p r.t r.given) r.given s (subst Live e cur.live) in
    let there : row_of_op p cur.instr.result cur.instr.op s ≡ calling p cur.instr.result (at_address p r.t r.given known.0) r.given s = e ∙ ap (λ (o : Option ℕ). calling p cur.instr.result (reading o (at_address p r.t r.given)) r.given s) known.1 in
    let split = range_first code.arguments from to (record { slot = r.x; kind = Rattle.no_code.specs.Coded.kind_of r.t }) r.arguments r.range.is in
    let pointer = pointer_width p.layout formed in
    record {
      t = r.t;
      callee = r.callee;
      given' = r.given;
      is = r.is;
      first = record { slot = r.x; kind = Rattle.no_code.specs.Coded.kind_of r.t };
      first_is = split.0;
      some = split.1;
      within = r.range.within;
      address = known.0;
      read = reads p s.frame.registers window code.constants here.covers p.layout.pointer r.x known.0 r.callee (some p.layout.pointer pointer) (most p.layout.pointer pointer) parts.0 r.target known.1;
      traps = λ z. cur.row_is ∙ there ∙ ap (λ (v : Valued). calling p cur.instr.result v r.given s) z;
      leads = λ k z.
          let at_number : row_of_op p cur.instr.result cur.instr.op s ≡ calling p cur.instr.result (Number k) r.given s = there ∙ ap (λ (v : Valued). calling p cur.instr.result v r.given s) z in
          let c = calling_known p cur.instr.result k r.given s (subst Live at_number cur.live) in
          record {
            numbers = c.0;
            function = c.1;
            function_is = c.3;
            row_is = cur.row_is ∙ at_number ∙ c.4;
            result = r.result;
            ordered = omega (arith, split.1);
            within = r.range.within;
            read = λ w low. subst (λ (l : List Argument). AreRead p formed code s.frame.registers w low l c.0) (sym split.2) (arguments_read p formed code s.frame.registers w low r.given r.arguments c.0 parts.1 r.each c.2);
            t = r.t;
            callee = r.callee;
            given' = r.given;
            calls = r.is;
          };
    }
