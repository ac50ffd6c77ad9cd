-- The call of the cell at which a machine stands.
use Rattle.std.proofs.Common.{◌≡◌, ◌⊎◌, inl, inr, ℕ, ◌+◌, ◌^◌, ◌<◌, ◌≤◌, ◌++◌, Bool, true, false, true≢false, IsTrue, List, [], length, drop, slice_get, slice_range, Option, Some, None, refl, sym, ap, subst, ◌∙◌, arith}
use Rattle.std.proofs.lemmas.Option.{same_Some, slice_get_within}
use Rattle.no_ir.specs.declared.ending.Trap.TheVariants.{BadFunction}
use Rattle.no_ir.specs.declared.instruction.Instr.{Instr}
use Rattle.no_ir.specs.declared.function.Function.{Function}
use Rattle.no_ir.specs.declared.instruction.Op.{Op}
use Rattle.no_ir.specs.declared.instruction.Op.TheVariants as op
use Rattle.no_ir.specs.declared.instruction.Operand.{Operand}
use Rattle.no_ir.specs.declared.types.Ty.{Ty}
use Rattle.no_ir.specs.declared.function.Block.{Block}
use Rattle.no_layout.specs.declared.memory.Regions.{Regions}
use Rattle.no_module.specs.declared.external.External.{External}
use Rattle.no_semantics.specs.Accepted.{Accepted}
use Rattle.no_semantics.specs.Acting.{row}
use Rattle.no_semantics.specs.Calls.{at_address}
use Rattle.no_semantics.specs.Registers.{given}
use Rattle.no_semantics.specs.Rows.{Row, affordable, trapping}
use Rattle.no_semantics.specs.Spans.{AreHeld}
use Rattle.no_semantics.specs.States.{State, block_in}
use Rattle.no_semantics.specs.Values.{Program}
use Rattle.no_code.specs.declared.code.Argument.{Argument}
use Rattle.no_code.specs.declared.code.Cell.{Cell}
use Rattle.no_code.specs.declared.code.Cell.TheVariants as cell
use Rattle.no_code.specs.declared.code.Code.{Code}
use Rattle.no_code.specs.declared.code.Place.{Place}
use Rattle.no_code.specs.Coded.{IsCell, first_cell, is_phi}
use Rattle.no_code.specs.Source.{Source}
use Rattle.no_machine.specs.Outside.{AreExternals, Around, Invoked, IsCalm, IsReadyInvoke, Outs, instr_of, reach_of}
use Rattle.no_machine.specs.Slots.{IsSlotIn, value_in}
use Rattle.no_machine.specs.Standing.{source_of}
use Rattle.no_machine.specs.Turning.{AreFacts, IsCalling, IsHere, program_with}
use Rattle.no_machine.specs.declared.frame.Saved.{Saved}
use Rattle.no_machine.specs.declared.out.Out.{Out}
use Rattle.no_machine.specs.declared.out.Out.TheVariants as out
use Rattle.no_machine.proofs.Going.{none_needed}
use Rattle.no_machine.proofs.Invoking.{Invokes, Points, invokes_by_name, points}
use Rattle.no_machine.proofs.Locating.{Current}
use Rattle.no_machine.proofs.Outs.{afford, each_here, invoke_ready, invoked_outs}
use Rattle.no_machine.proofs.Turns.{at_inside, cell_is, cur, formed, live}

-- ---- cells of calls

abbrev pub IsCallCell : Cell → Type 0
IsCallCell c = ((into : ℕ) × (f : ℕ) × (from : ℕ) × (to : ℕ) × (c ≡ cell.Call into f from to)) ⊎ ((into : ℕ) × (from : ℕ) × (to : ℕ) × (c ≡ cell.CallAt into from to))

abbrev is_call : Op → Bool
is_call (op.Call t callee args) = true
is_call _ = false

module _ (S : Source) (n : ℕ) (code : Code) (g : Function) (base label : ℕ) (i : Instr) (t : Ty) (callee : Operand) (args : List (Ty × Operand)) (is : i.op ≡ op.Call t callee args) where
  no_call : is_call i.op ≡ false → ⊥
  no_call e = true≢false (sym (ap is_call is) ∙ e)

  call_cell : (c : Cell) → IsCell S n code g base label i c → IsCallCell c
  call_cell cell.Nothing r = absurd r
  call_cell cell.Phi r = absurd (true≢false (sym r ∙ ap is_phi is))
  call_cell (cell.Add w into x y) r = absurd (no_call (ap is_call r.is))
  call_cell (cell.Sub w into x y) r = absurd (no_call (ap is_call r.is))
  call_cell (cell.Mul w into x y) r = absurd (no_call (ap is_call r.is))
  call_cell (cell.UDiv w into x y) r = absurd (no_call (ap is_call r.is))
  call_cell (cell.URem w into x y) r = absurd (no_call (ap is_call r.is))
  call_cell (cell.SDiv w into x y) r = absurd (no_call (ap is_call r.is))
  call_cell (cell.SRem w into x y) r = absurd (no_call (ap is_call r.is))
  call_cell (cell.Shl w into x y) r = absurd (no_call (ap is_call r.is))
  call_cell (cell.LShr w into x y) r = absurd (no_call (ap is_call r.is))
  call_cell (cell.AShr w into x y) r = absurd (no_call (ap is_call r.is))
  call_cell (cell.And w into x y) r = absurd (no_call (ap is_call r.is))
  call_cell (cell.Or w into x y) r = absurd (no_call (ap is_call r.is))
  call_cell (cell.Xor w into x y) r = absurd (no_call (ap is_call r.is))
  call_cell (cell.Eq w into x y) r = absurd (no_call (ap is_call r.is))
  call_cell (cell.Ne w into x y) r = absurd (no_call (ap is_call r.is))
  call_cell (cell.Ugt w into x y) r = absurd (no_call (ap is_call r.is))
  call_cell (cell.Uge w into x y) r = absurd (no_call (ap is_call r.is))
  call_cell (cell.Ult w into x y) r = absurd (no_call (ap is_call r.is))
  call_cell (cell.Ule w into x y) r = absurd (no_call (ap is_call r.is))
  call_cell (cell.Sgt w into x y) r = absurd (no_call (ap is_call r.is))
  call_cell (cell.Sge w into x y) r = absurd (no_call (ap is_call r.is))
  call_cell (cell.Slt w into x y) r = absurd (no_call (ap is_call r.is))
  call_cell (cell.Sle w into x y) r = absurd (no_call (ap is_call r.is))
  call_cell (cell.Trunc w v into x) r = absurd (no_call (ap is_call r.is))
  call_cell (cell.ZExt w v into x) r = absurd (no_call (ap is_call r.is))
  call_cell (cell.SExt w v into x) r = absurd (no_call (ap is_call r.is))
  call_cell (cell.PtrToInt w v into x) r = absurd (no_call (ap is_call r.is))
  call_cell (cell.IntToPtr w v into x) r = absurd (no_call (ap is_call r.is))
  call_cell (cell.BitCast w v into x) r = absurd (no_call (ap is_call r.is))
  call_cell (cell.Copy into x) r = absurd (no_call (ap is_call r.is))
  call_cell (cell.Select into z x y) r = absurd (no_call (ap is_call r.is))
  call_cell (cell.Alloca into x stride align) r = absurd (no_call (ap is_call r.is))
  call_cell (cell.Load w into x) r = absurd (no_call (ap is_call r.is))
  call_cell (cell.Store w y x) r = absurd (no_call (ap is_call r.is))
  call_cell (cell.Gep into x from to) r = absurd (no_call (ap is_call r.is))
  call_cell (cell.Br e) r = absurd (no_call (ap is_call r.is))
  call_cell (cell.CondBr x e f) r = absurd (no_call (ap is_call r.is))
  call_cell (cell.Switch x e from to) r = absurd (no_call (ap is_call r.is))
  call_cell (cell.Ret x) r = absurd (no_call (ap is_call r.is))
  call_cell (cell.Call into f from to) r = inl (into, f, from, to, refl)
  call_cell (cell.CallAt into from to) r = inr (into, from, to, refl)
  call_cell cell.Leave r = absurd (no_call (ap is_call r))
  call_cell cell.Unreachable r = absurd (no_call (ap is_call r))

module _ (a : Accepted) (addresses : List ℕ) (regions : Regions) (code : Code) (cells : List Cell) (constants : List ℕ) (declared : List Bool) (big : Bool) (pointer : ℕ) (facts : AreFacts a addresses code cells constants declared big pointer)
    (externals : List (Option External)) (table : AreExternals a.«module» a.role externals)
    (at base sp : ℕ) (slots : List ℕ) (frames : List Saved) (held : ℕ → Bool) (byte : ℕ → ℕ) (s : State) (here : IsHere (program_with a addresses regions) at base sp slots frames held byte s) where
  abbrev p : Program
  p = program_with a addresses regions

  abbrev F : IsTrue (Rattle.no_layout.specs.Text.is_formed a.layout)
  F = formed a addresses regions code cells constants declared big pointer facts

  abbrev C : Current p code s at (drop base slots) here.stands.frame
  C = cur a addresses regions code cells constants declared big pointer facts at base sp slots frames held byte s here

  means_as : (c : Cell) → slice_get cells at ≡ Some c → IsCell (source_of p) (length s.frame.registers) code here.stands.frame.function (first_cell p.«module».functions s.frame.function) C.from.label C.instr c
  means_as c e =
      subst (λ (x : Cell). IsCell (source_of p) (length s.frame.registers) code here.stands.frame.function (first_cell p.«module».functions s.frame.function) C.from.label C.instr x)
      (sym (cell_is a addresses regions code cells constants declared big pointer facts at base sp slots frames held byte s here c e)) C.means

  -- the cell of a call
  is_call_cell : IsCalling p s → (c : Cell) → slice_get cells at ≡ Some c → IsCallCell c
  is_call_cell calling c e =
      let same : C.instr ≡ calling.instr = same_Some C.instr calling.instr (sym C.instr_is ∙ calling.is) in
      call_cell (source_of p) (length s.frame.registers) code here.stands.frame.function (first_cell p.«module».functions s.frame.function) C.from.label C.instr calling.result calling.callee calling.arguments (ap (λ (i : Instr). i.op) same ∙ calling.calls) c (means_as c e)

  pub no_other : IsCalling p s → (c : Cell) → slice_get cells at ≡ Some c → ((into f from to : ℕ) → c ≡ cell.Call into f from to → ⊥) → ((into from to : ℕ) → c ≡ cell.CallAt into from to → ⊥) → ⊥
  no_other calling c e by_name' by_pointer' = elim (is_call_cell calling c e) [
    | inl k ↦ by_name' k.0 k.1 k.2 k.3 k.4
    | inr k ↦ by_pointer' k.0 k.1 k.2 k.3
  ]

  pub next_fits : length cells < 2 ^ 64 → at + 1 < 2 ^ 64
  next_fits few = omega (arith, few, at_inside a addresses regions code cells constants declared big pointer facts at base sp slots frames held byte s here)

  pub place_inside : at < length code.places
  place_inside = slice_get_within code.places at C.place C.place_is

  pub by_name : (into f from to : ℕ) → slice_get cells at ≡ Some (cell.Call into f from to) → Invokes p F code s C.instr into f from to
  by_name into f from to e = invokes_by_name p F code s at (drop base slots) here.stands.frame C into f from to (means_as (cell.Call into f from to) e)

  pub by_pointer : (into from to : ℕ) → slice_get cells at ≡ Some (cell.CallAt into from to) → Points p F code s (drop base slots) C.instr into from to
  by_pointer into from to e = points p F code s at (drop base slots) here.stands.frame C into from to (means_as (cell.CallAt into from to) e)

  -- what a call needs and does that is known
  module _ (into f from to : ℕ) (known : Invokes p F code s C.instr into f from to) where
    pub needs : at + 1 < 2 ^ 64 → IsReadyInvoke code declared externals slots at base into f from to
    needs next = invoke_ready p F code facts.is declared facts.flags externals table s at base sp slots frames here.stands C (live a addresses regions code cells constants declared big pointer facts at base sp slots frames held byte s here) into f from to known next

    pub reads_each : (k : ℕ) (x : Argument) → slice_get (slice_range code.arguments from to) k ≡ Some x → IsSlotIn (drop base slots) code.constants x.slot
    reads_each = each_here p F code facts.is declared facts.flags externals table s at base sp slots frames here.stands C (live a addresses regions code cells constants declared big pointer facts at base sp slots frames held byte s here) into f from to known

    pub does : (new : List ℕ) (now : List Saved) (after : ℕ) (x : Around) → x.held ≡ held → x.byte ≡ byte → (more : List ℕ) (left : ℕ) → 1 ≤ left → s.heap ≡ x.heap → s.input ≡ x.env.input ++ more → (x.env.ended ≡ true → more ≡ []) → (q : Regions) (held' own own' : ℕ → Bool) (result : Out)
        → ((outside : Bool) → slice_get declared f ≡ Some outside → (entry : Option External) → slice_get externals f ≡ Some entry → Invoked outside entry a.«module».functions regions q x.held held' own own' code declared left at base into f from to (record { slots = slots; new = new; frames = frames; now = now; sp = sp; after = after }) x result)
        → Outs p result at base after new now x more s (affordable left (row p s))
    does new now after x held_is byte_is more left some heap_is input_is last q held' own own' result all =
        invoked_outs p F code facts.is declared facts.flags externals table s at base sp slots frames here.stands C (live a addresses regions code cells constants declared big pointer facts at base sp slots frames held byte s here) into f from to known new now after x more left some heap_is input_is
        (subst (λ (h : ℕ → Bool). Rattle.no_layout.specs.Memory.Agrees h x.byte s.byte) (sym held_is) (subst (λ (b : ℕ → ℕ). Rattle.no_layout.specs.Memory.Agrees held b s.byte) (sym byte_is) here.agrees)) last q held' own own' result all

  -- the instruction of the place
  pub instr_is : instr_of a.«module» C.place ≡ Some C.instr
  instr_is =
      ap (λ (k : ℕ). given None (block_in a.«module» k C.place.block) (λ (b : Block). slice_get b.instrs C.place.at)) C.function_is
      ∙ ap (λ (k : ℕ). given None (block_in a.«module» s.frame.function k) (λ (b : Block). slice_get b.instrs C.place.at)) C.block_is
      ∙ ap (λ (k : ℕ). given None (block_in a.«module» s.frame.function s.frame.block) (λ (b : Block). slice_get b.instrs k)) C.at_is
      ∙ C.instr_is

  module _ (into from to : ℕ) (e : slice_get cells at ≡ Some (cell.CallAt into from to)) where
    abbrev D : Points p F code s (drop base slots) C.instr into from to
    D = by_pointer into from to e

    pub first_inside : from < length code.arguments
    first_inside = omega (arith, D.some, D.within)

    pub first_slot : (slot : ℕ) → ((x : Argument) → slice_get code.arguments from ≡ Some x → slot ≡ x.slot) → IsSlotIn (drop base slots) constants slot
    first_slot slot is =
        subst (λ (k : ℕ). IsSlotIn (drop base slots) constants k) (sym (is D.first D.first_is)) (subst (λ (cs : List ℕ). IsSlotIn (drop base slots) cs D.first.slot) (sym facts.constants_are) D.read.slot)

    -- where it leads
    leads_to : (slot address : ℕ) → ((x : Argument) → slice_get code.arguments from ≡ Some x → slot ≡ x.slot) → address ≡ value_in (drop base slots) constants slot → (o : Option ℕ)
        → ((place : Place) → slice_get code.places at ≡ Some place → (i : Instr) → instr_of a.«module» place ≡ Some i → (t : Ty) (callee : Operand) (args : List (Ty × Operand)) → i.op ≡ op.Call t callee args → (ads : List ℕ) (rs : Regions) → reach_of o ≡ at_address (program_with a ads rs) t args address)
        → reach_of o ≡ at_address p D.t D.given' D.address
    leads_to slot address is read o reached =
        let there : address ≡ D.address = read ∙ ap (λ (k : ℕ). value_in (drop base slots) constants k) (is D.first D.first_is) ∙ ap (λ (cs : List ℕ). value_in (drop base slots) cs D.first.slot) facts.constants_are ∙ D.read.is in
        reached C.place C.place_is C.instr instr_is D.t D.callee D.given' D.is addresses regions ∙ ap (at_address p D.t D.given') there

    module _ (slot address : ℕ) (is : (x : Argument) → slice_get code.arguments from ≡ Some x → slot ≡ x.slot) (read : address ≡ value_in (drop base slots) constants slot) (o : Option ℕ)
        (reached : (place : Place) → slice_get code.places at ≡ Some place → (i : Instr) → instr_of a.«module» place ≡ Some i → (t : Ty) (callee : Operand) (args : List (Ty × Operand)) → i.op ≡ op.Call t callee args → (ads : List ℕ) (rs : Regions) → reach_of o ≡ at_address (program_with a ads rs) t args address) where
      pub leads_known : (k f next : ℕ) → o ≡ Some k → f ≡ k → next ≡ from + 1 → Invokes p F code s C.instr into f next to
      leads_known k f next e same one = subst (λ (n : ℕ). Invokes p F code s C.instr into f n to) (sym one) (subst (λ (j : ℕ). Invokes p F code s C.instr into j (from + 1) to) (sym same) (D.leads k (sym (leads_to slot address is read o reached) ∙ ap reach_of e)))

      pub traps_known : o ≡ None → row p s ≡ trapping BadFunction
      traps_known e = D.traps (sym (leads_to slot address is read o reached) ∙ ap reach_of e)

  -- a trap of the call
  pub trap_outs : (x : Around) (more : List ℕ) (left : ℕ) → 1 ≤ left → IsCalm x → row p s ≡ trapping BadFunction → Outs p (out.Trapped BadFunction) at base sp slots frames x more s (affordable left (row p s))
  trap_outs x more left some calm e =
      let e' : affordable left (row p s) ≡ trapping BadFunction = ap (affordable left) e ∙ afford left (trapping BadFunction) refl some in
      (ap (λ (r : Row). r.next) e', ap (λ (r : Row). r.cost) e', subst (λ (r : Row). AreHeld x.held r.sought) (sym e') (none_needed x.held), record { stands = here.stands; calm = calm })
