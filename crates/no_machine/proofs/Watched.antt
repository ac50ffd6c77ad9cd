-- What the instruction touches at which a machine stands.
use Rattle.std.proofs.Common.{◌≡◌, ℕ, ◌+◌, ◌<◌, ◌≤◌, ◌++◌, Bool, true, false, IsTrue, List, [], ◌∷◌, drop, length, length-append, map, slice_get, slice_range, Option, Some, None, refl, sym, ap, subst, ◌∙◌, arith}
use Rattle.std.specs.Prelude.{IfSome}
use Rattle.std.proofs.lemmas.Option.{slice_get_within}
use Rattle.no_heap.specs.declared.block.Block.{Block}
use Rattle.no_ir.specs.declared.ending.Trap.TheVariants.{BadFunction}
use Rattle.no_ir.specs.declared.ending.Trap.{Trap}
use Rattle.no_ir.specs.declared.instruction.Instr.{Instr}
use Rattle.no_layout.specs.Memory.{refusal}
use Rattle.no_layout.specs.declared.memory.Regions.{Regions}
use Rattle.no_module.specs.declared.external.External.{External}
use Rattle.no_module.specs.Externals.{external_of}
use Rattle.no_semantics.specs.Accepted.{Accepted}
use Rattle.no_semantics.specs.Acting.{row, row_of_op}
use Rattle.no_semantics.specs.Rows.{Row, trapping}
use Rattle.no_semantics.specs.States.{Frame, State}
use Rattle.no_semantics.specs.Values.{Program, bytes_of_width}
use Rattle.no_code.specs.Coded.{IsCell, IsLoad, IsStore, first_cell}
use Rattle.no_code.specs.declared.code.Argument.{Argument}
use Rattle.no_code.specs.declared.code.Cell.{Cell}
use Rattle.no_code.specs.declared.code.Cell.TheVariants as cell
use Rattle.no_code.specs.declared.code.Code.{Code}
use Rattle.no_machine.specs.Calling.{argument_in}
use Rattle.no_machine.specs.Outside.{AreExternals}
use Rattle.no_machine.specs.Slots.{IsSlotIn, value_in}
use Rattle.no_machine.specs.Standing.{AreWaiting, source_of}
use Rattle.no_machine.specs.Turning.{AreFacts, IsHere, program_with}
use Rattle.no_machine.specs.Watching.{IsCallTouch, IsTouchOf}
use Rattle.no_machine.specs.declared.frame.Saved.{Saved}
use Rattle.no_machine.specs.declared.watch.Touch.{Touch}
use Rattle.no_machine.specs.declared.watch.Touch.TheVariants as touch
use Rattle.no_machine.proofs.Invoking.{Invokes}
use Rattle.no_machine.proofs.Locating.{Current}
use Rattle.no_machine.proofs.Reaching.{load_one, store_one}
use Rattle.no_machine.proofs.Touching.{fetched_touch, invoked_touch, is_quiet_cell, quiet_cell, quiet_touch, stored_touch}
use Rattle.no_machine.proofs.Turns.{cell_is, cur, formed, ready}

-- as many callers are kept as wait
pub waiting_length : (p : Program) (sp : ℕ) (callers : List Frame) (frames : List Saved) (below : List ℕ) → AreWaiting p sp callers frames below → length frames ≡ length callers
waiting_length p sp [] frames below w = ap length w
waiting_length p sp (c ∷ callers) frames below (front, w, e, is, rest) =
    let one : length (front ++ w ∷ []) ≡ length front + 1 = length-append front (w ∷ []) in
    let more : length front ≡ length callers = waiting_length p c.saved callers front _ rest in
    omega (arith, ap length e, one, more)

-- a trap touches nothing, whatever is told of it
pub trap_touch : (t : Touch) (x : Trap) (r : Row) → r ≡ trapping x → IsTouchOf t r
trap_touch t x r e = subst (IsTouchOf t) (sym e) (λ bytes call after goes. absurd cc)

module _ (a : Accepted) (addresses : List ℕ) (regions : Regions) (code : Code) (cells : List Cell) (constants : List ℕ) (declared : List Bool) (big : Bool) (pointer : ℕ) (facts : AreFacts a addresses code cells constants declared big pointer)
    (at base sp : ℕ) (slots : List ℕ) (frames : List Saved) (held : ℕ → Bool) (byte : ℕ → ℕ) (s : State) (here : IsHere (program_with a addresses regions) at base sp slots frames held byte s) where
  abbrev p : Program
  p = program_with a addresses regions

  abbrev F : IsTrue (Rattle.no_layout.specs.Text.is_formed a.layout)
  F = formed a addresses regions code cells constants declared big pointer facts

  abbrev C : Current p code s at (drop base slots) here.stands.frame
  C = cur a addresses regions code cells constants declared big pointer facts at base sp slots frames held byte s here

  means_as : (c : Cell) → slice_get cells at ≡ Some c → IsCell (source_of p) (length s.frame.registers) code here.stands.frame.function (first_cell p.«module».functions s.frame.function) C.from.label C.instr c
  means_as c e =
      subst (λ (x : Cell). IsCell (source_of p) (length s.frame.registers) code here.stands.frame.function (first_cell p.«module».functions s.frame.function) C.from.label C.instr x)
      (sym (cell_is a addresses regions code cells constants declared big pointer facts at base sp slots frames held byte s here c e)) C.means

  pub function_is : C.place.function ≡ s.frame.function
  function_is = C.function_is

  pub place_is : slice_get code.places at ≡ Some C.place
  place_is = C.place_is

  pub base_inside : base ≤ length slots
  base_inside = here.stands.inside

  -- ---- loads and stores

  pub load_slot : (w into x : ℕ) → slice_get cells at ≡ Some (cell.Load w into x) → IsSlotIn (drop base slots) constants x
  load_slot w into x e = subst (λ (cs : List ℕ). IsSlotIn (drop base slots) cs x) (sym facts.constants_are) (ready a addresses regions code cells constants declared big pointer facts at base sp slots frames held byte s here (cell.Load w into x) e).address

  pub store_slot : (w y x : ℕ) → slice_get cells at ≡ Some (cell.Store w y x) → IsSlotIn (drop base slots) constants x
  store_slot w y x e = subst (λ (cs : List ℕ). IsSlotIn (drop base slots) cs x) (sym facts.constants_are) (ready a addresses regions code cells constants declared big pointer facts at base sp slots frames held byte s here (cell.Store w y x) e).address

  -- a range that is read in the slot of its address
  of_slot : (x place address n w : ℕ) → value_in (drop base slots) code.constants x ≡ place → address ≡ value_in (drop base slots) constants x → n ≡ bytes_of_width w → touch.Bytes address n ≡ touch.Bytes place (bytes_of_width w)
  of_slot x place address n w is e long =
      let same : address ≡ place = e ∙ ap (λ (cs : List ℕ). value_in (drop base slots) cs x) facts.constants_are ∙ is in
      ap (λ (k : ℕ). touch.Bytes k n) same ∙ ap (touch.Bytes place) long

  pub load_touch : (w into x address n : ℕ) → slice_get cells at ≡ Some (cell.Load w into x) → address ≡ value_in (drop base slots) constants x → n ≡ bytes_of_width w → IsTouchOf (touch.Bytes address n) (row p s)
  load_touch w into x address n e is long =
      let l = load_one p F code C.instr s at (drop base slots) here.stands.frame C.fits C.live w into x (means_as (cell.Load w into x) e) in
      let told = fetched_touch C.instr.result p s.byte w l.place (bytes_of_width w) s (refusal p.regions false l.place (bytes_of_width w)) in
      subst (λ (t : Touch). IsTouchOf t (row p s)) (sym (of_slot x l.place address n w l.address.is is long)) (subst (IsTouchOf (touch.Bytes l.place (bytes_of_width w))) (sym (C.row_is ∙ l.row (refusal p.regions false l.place (bytes_of_width w)) refl)) told)

  pub store_touch : (w y x address n : ℕ) → slice_get cells at ≡ Some (cell.Store w y x) → address ≡ value_in (drop base slots) constants x → n ≡ bytes_of_width w → IsTouchOf (touch.Bytes address n) (row p s)
  store_touch w y x address n e is long =
      let l = store_one p F code C.instr s at (drop base slots) here.stands.frame C.fits C.live w y x (means_as (cell.Store w y x) e) in
      let told = stored_touch p l.place (bytes_of_width w) l.number s (refusal p.regions true l.place (bytes_of_width w)) in
      subst (λ (t : Touch). IsTouchOf t (row p s)) (sym (of_slot x l.place address n w l.address.is is long)) (subst (IsTouchOf (touch.Bytes l.place (bytes_of_width w))) (sym (C.row_is ∙ l.row (refusal p.regions true l.place (bytes_of_width w)) refl)) told)

  pub other_touch : (c : Cell) → slice_get cells at ≡ Some c → is_quiet_cell c ≡ true → IsTouchOf touch.Nothing (row p s)
  other_touch c e quiet =
      subst (IsTouchOf touch.Nothing) (sym C.row_is) (quiet_touch p C.instr.result C.instr.op s (quiet_cell (source_of p) (length s.frame.registers) code here.stands.frame.function (first_cell p.«module».functions s.frame.function) C.from.label C.instr c (means_as c e) quiet))

  -- ---- calls

  module _ (into f from to : ℕ) (known : Invokes p F code s C.instr into f from to) where
    pub call_slots : (k : ℕ) (x : Argument) → slice_get (slice_range code.arguments from to) k ≡ Some x → IsSlotIn (drop base slots) constants x.slot
    call_slots k x e = subst (λ (cs : List ℕ). IsSlotIn (drop base slots) cs x.slot) (sym facts.constants_are) ((known.read (drop base slots) here.stands.frame.covers).each k x e)

    pub call_ordered : from ≤ to
    call_ordered = known.ordered

    pub call_within : to ≤ length code.arguments
    call_within = known.within

    module _ (externals : List (Option External)) (table : AreExternals a.«module» a.role externals) where
      entry_is : slice_get externals f ≡ Some (external_of a.role known.function)
      entry_is = table f known.function known.function_is

      pub call_known : f < length externals
      call_known = slice_get_within externals f (external_of a.role known.function) entry_is

      pub call_touch : (t : Touch) (heap : List Block) → s.heap ≡ heap → ((entry : Option External) → slice_get externals f ≡ Some entry → IsCallTouch t entry heap (map (argument_in (drop base slots) constants) (slice_range code.arguments from to))) → IsTouchOf t (row p s)
      call_touch t heap same told =
          let numbers : map (argument_in (drop base slots) constants) (slice_range code.arguments from to) ≡ known.numbers =
          ap (λ (cs : List ℕ). map (argument_in (drop base slots) cs) (slice_range code.arguments from to)) facts.constants_are ∙ (known.read (drop base slots) here.stands.frame.covers).are in
          let told' : IsCallTouch t (external_of a.role known.function) heap known.numbers = subst (IsCallTouch t (external_of a.role known.function) heap) numbers (told (external_of a.role known.function) entry_is) in
          subst (IsTouchOf t) (sym known.row_is) (invoked_touch t p C.instr.result f known.numbers s known.function heap told' same)

      pub call_touches : (o : Option Touch) (heap : List Block) → s.heap ≡ heap → ((entry : Option External) → slice_get externals f ≡ Some entry → IfSome o (λ t. IsCallTouch t entry heap (map (argument_in (drop base slots) constants) (slice_range code.arguments from to)))) → IfSome o (λ t. IsTouchOf t (row p s))
      call_touches None heap same told = tt
      call_touches (Some t) heap same told = call_touch t heap same told

-- what is known of an external that a table names
pub entry_touch : (o : Option Touch) (heap : List Block) (ns : List ℕ) (entry found : Option External) → found ≡ entry → IfSome o (λ t. IsCallTouch t found heap ns) → IfSome o (λ t. IsCallTouch t entry heap ns)
entry_touch o heap ns entry found e h = subst (λ (x : Option External). IfSome o (λ t. IsCallTouch t x heap ns)) e h
