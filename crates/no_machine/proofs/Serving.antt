-- Calls of externals of the library mean their instructions.
use Rattle.std.proofs.Common.{◌≡◌, ℕ, ◌+◌, ◌≤◌, ◌==◌, nat_lt, if◌then◌else◌, Bool, true, false, List, [], ◌∷◌, ◌++◌, length, take, drop, Option, Some, None, refl, sym, ap, subst, ◌∙◌, arith, inl, inr}
use Rattle.std.proofs.lemmas.Bool.{cases_Bool, eqb-true, le-ltb}
use Rattle.no_layout.specs.Memory.{Agrees}
use Rattle.no_layout.specs.declared.memory.Regions.{Regions}
use Rattle.no_lib.specs.Answers.{AreSame, IsLeft, IsWorld, Means, Seen, seen}
use Rattle.no_lib.specs.declared.answer.LibAnswer.{LibAnswer}
use Rattle.no_lib.specs.declared.answer.LibAnswer.TheVariants as answer
use Rattle.no_module.specs.declared.external.External.{External}
use Rattle.no_module.specs.declared.external.External.TheVariants as external
use Rattle.no_semantics.specs.Acting.{row}
use Rattle.no_semantics.specs.Calls.{effect_row, outcome_row, row_effect, row_external, with_world, world_of}
use Rattle.no_semantics.specs.Externals as ext
use Rattle.no_semantics.specs.Rows.{Row, Next, Ends, Goes, Stuck, affordable, needed, plain}
use Rattle.no_semantics.specs.Spans.{AreHeld, IsLowestAbsent, Span}
use Rattle.no_semantics.specs.States.{Frame, State, answered, assigned, moved}
use Rattle.no_semantics.specs.Values.{Program}
use Rattle.no_lib.proofs.Effects.{IsRowOf, external_paid, within}
use Rattle.no_code.specs.Slots.{IsInto}
use Rattle.no_code.specs.declared.code.Code.{Code}
use Rattle.no_machine.specs.Calling.{given_at}
use Rattle.no_machine.specs.Outside.{Around, HasWent, IsCalmly, IsOfLibrary, Outs, out_of, value_of}
use Rattle.no_machine.specs.Standing.{AreWaiting, Stands}
use Rattle.no_machine.specs.declared.frame.Saved.{Saved}
use Rattle.no_machine.proofs.Going.{none_needed}
use Rattle.no_machine.proofs.Locating.{Current}
use Rattle.no_machine.proofs.Resuming.{given_length, given_take, resumes_at}

not_zero : (left : ℕ) → 1 ≤ left → (left == 0) ≡ false
not_zero left some = elim (cases_Bool (left == 0)) [
  | inl is ↦ (let e : left ≡ 0 = eqb-true left 0 is in absurd (omega (arith, e)))
  | inr other ↦ other
]

library_row : Program → Option ℕ → List ℕ → State → External → Row
library_row p into ns s which = record (row_effect into (ext.do_external p.regions which ns (world_of s)) s) { asks = ext.is_getchar which }

row_as : (p : Program) (into : Option ℕ) (ns : List ℕ) (s : State) (which : External) → IsOfLibrary which → row_external p into which ns s ≡ library_row p into ns s which
unfolding library_row
row_as p into ns s external.Alloca is = absurd is
row_as p into ns s external.Map is = absurd is
row_as p into ns s external.GetChar is = refl
row_as p into ns s external.PutChar is = refl
row_as p into ns s external.Puts is = refl
row_as p into ns s external.Malloc is = refl
row_as p into ns s external.Calloc is = refl
row_as p into ns s external.Free is = refl
row_as p into ns s external.Exit is = refl
row_as p into ns s external.Abort is = refl
row_as p into ns s external.Move is = refl
row_as p into ns s external.Set is = refl
row_as p into ns s (external.Swap n) is = refl
row_as p into ns s (external.UMin n) is = refl
row_as p into ns s (external.UMax n) is = refl
row_as p into ns s (external.SMin n) is = refl
row_as p into ns s (external.SMax n) is = refl
row_as p into ns s external.Hint is = refl

getchar_costs : (into : Option ℕ) (s : State) (args : List ℕ) → (row_effect into (ext.with_none args ext.do_getchar (world_of s)) s).cost ≡ 1
unfolding ext.do_getchar
getchar_costs into s [] = refl
getchar_costs into s (n ∷ more) = refl

row_of_effect : (p : Program) (into : Option ℕ) (ns : List ℕ) (s : State) (which : External) (left : ℕ) → 1 ≤ left → IsOfLibrary which → IsRowOf (affordable left (row_external p into which ns s)) into (ext.external_effect p.regions which ns left (world_of s)) s
unfolding library_row
row_of_effect p into ns s which left some library =
    let e = row_as p into ns s which library in
    let k = not_zero left some in
    rw (e, k) (within into (ext.do_external p.regions which ns (world_of s)) s (ext.is_getchar which) left (world_of s) (external_paid p.regions which ns (world_of s)))

asks_getchar : (p : Program) (into : Option ℕ) (ns : List ℕ) (s : State) (which : External) (left : ℕ) → 1 ≤ left → which ≡ external.GetChar → (affordable left (row_external p into which ns s)).asks ≡ true
unfolding library_row
asks_getchar p into ns s which left some is =
    let r : Row = library_row p into ns s external.GetChar in
    let low : nat_lt left r.cost ≡ false = ap (nat_lt left) (getchar_costs into s ns) ∙ le-ltb left 1 some in
    ap (λ (x : External). (affordable left (row_external p into x ns s)).asks) is ∙ ap (λ (b : Bool). (if b then Rattle.no_semantics.specs.Rows.unfinished r.sought else r).asks) low

answered_some : (result value : Option ℕ) (f : Frame) → (to : Frame) × (answered result value f ≡ Some to)
answered_some None value f = (moved f, refl)
answered_some (Some r) None f = (moved f, refl)
answered_some (Some r) (Some n) f = (assigned (Some r) n f, refl)

module _ (p : Program) (code : Code) (s : State) (at base sp : ℕ) (slots : List ℕ) (frames : List Saved) (st : Stands p at base sp slots frames s) (cur : Current p code s at (drop base slots) st.frame) (into : ℕ) (result : IsInto (length s.frame.registers) cur.instr.result into)
    (which : External) (library : IsOfLibrary which) (ns : List ℕ) (left : ℕ) (some : 1 ≤ left) (row_is : row p s ≡ row_external p cur.instr.result which ns s)
    (a : Around) (regions : Regions) (held_after own owns : ℕ → Bool) (more : List ℕ) (heap_is : s.heap ≡ a.heap) (input_is : s.input ≡ a.env.input ++ more) (agrees : Agrees a.held a.byte s.byte) (last : a.env.ended ≡ true → more ≡ []) where
  abbrev was : Seen
  was = seen p.regions a.held own a.byte a.heap a.env

  abbrev now : Seen
  now = seen regions held_after owns a.after a.heap_after a.env_after

  abbrev R : Row
  R = affordable left (row p s)

  abbrev effect : ext.Effect
  effect = ext.external_effect p.regions which ns left (world_of s)

  is_row : IsRowOf R cur.instr.result effect s
  is_row = subst (λ (r : Row). IsRowOf (affordable left r) cur.instr.result effect s) (sym row_is) (row_of_effect p cur.instr.result ns s which left some library)

  world : IsWorld was more (world_of s)
  world = record { bytes = agrees; blocks = heap_is; rest = input_is }

  -- it was done, with a value or with none
  went : (value : Option ℕ) (cost : ℕ) → now.held ≡ was.held → row_effect cur.instr.result effect s ≡ effect_row cost effect s (answered cur.instr.result value s.frame) → IsLeft effect was now more
      → HasWent p (at + 1) base cost sp (given_at value (base + into) slots) frames a more R
  went value cost pages e there =
      let to = answered_some cur.instr.result value s.frame in
      let f = to.0 in
      let e' : row_effect cur.instr.result effect s ≡ effect_row cost effect s (Some f) = e ∙ ap (effect_row cost effect s) to.1 in
      let resumes = resumes_at p s.frame f at into base cur.instr.result value slots to.1 result st.frame in
      record {
        state = record (with_world s effect.world) { frame = f };
        output = effect.output;
        call = None;
        next = is_row.next ∙ ap (λ (r : Row). r.next) e';
        costs = is_row.costs ∙ ap (λ (r : Row). r.cost) e';
        stands = record {
          inside = omega (arith, given_length value (base + into) slots, st.inside);
          frame = resumes.0;
          callers = subst (λ (l : List ℕ). AreWaiting p f.saved s.callers frames l) (sym (given_take value base into slots)) (subst (λ (k : ℕ). AreWaiting p k s.callers frames (take base slots)) (sym resumes.1) st.callers);
          sp_is = st.sp_is;
        };
        blocks = there.world.blocks;
        rest = there.world.rest;
        wrote = there.output;
        agrees = subst (λ (h : ℕ → Bool). Agrees h a.after effect.world.byte) pages there.world.bytes;
        present = subst (AreHeld a.held) (sym is_row.needs) there.pages;
      }

  calm : AreSame was now → IsCalmly p at base sp slots frames a s
  calm same = record { stands = st; calm = record { bytes = same.bytes; blocks = same.blocks; rest = same.rest; wrote = same.output } }

  pub told_outs : (told : LibAnswer) → Means which (ext.external_effect p.regions which ns left) told was now → Outs p (out_of told at base) at base sp (given_at (value_of told) (base + into) slots) frames a more s R
  told_outs (answer.Value v cost) means =
      let told = means.told more (world_of s) last world in
      went (Some v) cost means.pages (ap (λ (o : ext.Outcome). outcome_row cur.instr.result o effect s) told.0) told.1
  told_outs (answer.Nothing cost) means =
      let told = means.told more (world_of s) last world in
      went None cost means.pages (ap (λ (o : ext.Outcome). outcome_row cur.instr.result o effect s) told.0) told.1
  told_outs (answer.Exited status) means =
      let e = ap (λ (o : ext.Outcome). outcome_row cur.instr.result o effect s) (means.told more (world_of s) last world) in
      (is_row.next ∙ ap (λ (r : Row). r.next) e, is_row.costs ∙ ap (λ (r : Row). r.cost) e, subst (AreHeld a.held) (sym (is_row.seeks ∙ ap (λ (r : Row). r.sought) e)) (none_needed a.held), calm means.same)
  told_outs (answer.Trapped t) means =
      let told = means.told more (world_of s) last world in
      let e = ap (λ (o : ext.Outcome). outcome_row cur.instr.result o effect s) told.0 in
      (is_row.next ∙ ap (λ (r : Row). r.next) e, is_row.costs ∙ ap (λ (r : Row). r.cost) e, subst (AreHeld a.held) (sym (is_row.seeks ∙ ap (λ (r : Row). r.sought) e)) told.1, calm means.same)
  told_outs answer.Over means =
      let told = means.told more (world_of s) last world in
      let e = ap (λ (o : ext.Outcome). outcome_row cur.instr.result o effect s) told.0 in
      (is_row.next ∙ ap (λ (r : Row). r.next) e, is_row.costs ∙ ap (λ (r : Row). r.cost) e, subst (AreHeld a.held) (sym (is_row.seeks ∙ ap (λ (r : Row). r.sought) e)) told.1, calm means.same)
  told_outs answer.Stuck means = is_row.next ∙ ap (λ (o : ext.Outcome). (outcome_row cur.instr.result o effect s).next) (means.told more (world_of s) last world)
  told_outs (answer.WantPage page) means = (subst (λ (ss : List Span). IsLowestAbsent a.held ss page) (sym is_row.needs) (means.told more (world_of s) last world), calm means.same)
  told_outs answer.WantInput means =
      let asks = means.asks refl in
      (ap (λ (r : Row). (affordable left r).asks) row_is ∙ asks_getchar p cur.instr.result ns s which left some asks.0, asks.1, asks.2, calm means.same)
  told_outs answer.NoMemory means = calm means.same
