-- Cells of memory and of the stack mean their instructions.
use Rattle.std.proofs.Common.{◌≡◌, ℕ, ◌+◌, ◌*◌, ◌%◌, ◌^◌, ◌<◌, ◌&&◌, Bool, true, false, IsTrue, List, length, slice_set, Option, Some, None, refl, sym, ap, subst, ◌∙◌, append-nil, arith}
use Rattle.std.proofs.lemmas.Bool.{and_parts}
use Rattle.no_ir.specs.declared.constant.Const.TheVariants as const
use Rattle.no_ir.specs.declared.ending.Trap.{Trap}
use Rattle.no_ir.specs.declared.types.Ty.{Ty}
use Rattle.no_ir.specs.declared.instruction.Instr.{Instr}
use Rattle.no_ir.specs.declared.instruction.Op.{Op}
use Rattle.no_ir.specs.declared.instruction.Op.TheVariants as op
use Rattle.no_ir.specs.declared.instruction.Operand.{Operand}
use Rattle.no_ir.specs.declared.instruction.Operand.TheVariants as operand'
use Rattle.no_layout.proofs.Agreeing.{done_agrees, writes_agree}
use Rattle.no_layout.specs.Memory.{Agrees, access, refusal, read_number, write_number}
use Rattle.no_layout.specs.Orders.{bytes_of, number_of}
use Rattle.no_layout.specs.Sizes.{type_align, type_stride}
use Rattle.no_layout.specs.Text.{is_formed}
use Rattle.no_layout.specs.declared.memory.Access.TheVariants.{Done, Missing, Refused}
use Rattle.no_semantics.specs.Access.{allocated, fetched, row_alloca, row_load, row_store, stored}
use Rattle.no_semantics.specs.Acting.{row_of_op}
use Rattle.no_semantics.specs.Image.{stated_or}
use Rattle.no_semantics.specs.Registers.{given, operand, operand_of, pointer_of}
use Rattle.no_semantics.specs.Results.{Valued, Number, alloca_value, bytes_of_type, count_of, load_value, loaded, lowered, reading, stack_place}
use Rattle.no_semantics.specs.Rows.{Row, needed, stuck, trapping}
use Rattle.no_semantics.specs.Sound.{align_fits, count_fits, is_scalar, is_width, op_fits, operand_fits, type_fits}
use Rattle.no_semantics.specs.Spans.{AreHeld, IsLowestAbsent, span_of}
use Rattle.no_semantics.specs.States.{State, assigned, moved}
use Rattle.no_semantics.specs.Values.{Program, bytes_of_width, width_of}
use Rattle.no_semantics.proofs.Scalars.{most, pointer_width, scalar_width, some}
use Rattle.no_code.specs.Coded.{IsAlloca, IsCount, IsLoad, IsStore}
use Rattle.no_code.specs.Slots.{IsInto}
use Rattle.no_code.specs.declared.code.Code.{Code}
use Rattle.no_machine.specs.Did.{Allocates, Beside, IsReadyAlloca, IsReadyLoad, IsReadyStore, Loads, Stores, value_at}
use Rattle.no_machine.specs.Standing.{IsFrameAt, Means, source_of}
use Rattle.no_machine.specs.declared.did.Did.{Did}
use Rattle.no_machine.specs.declared.did.Did.TheVariants as did
use Rattle.no_machine.proofs.Accesses.{absent_not_refused, lowest_of, not_refused, refused, some_bytes, spans_held}
use Rattle.no_machine.proofs.Framing.{assigned_at, moved_at}
use Rattle.no_machine.proofs.Going.{Live, none_needed}
use Rattle.no_machine.proofs.Reading.{Reads, number_in, reads}

-- ---- rows of operands that have numbers

given_known : (o : Option ℕ) (make : ℕ → Row) → Live (given stuck o make) → (u : ℕ) × (o ≡ Some u)
given_known None make live = absurd (live refl)
given_known (Some u) make live = (u, refl)

given_two : (o q : Option ℕ) (make : ℕ → ℕ → Row) → Live (given stuck o (λ x. given stuck q (λ y. make x y))) → (u v : ℕ) × (o ≡ Some u) × (q ≡ Some v)
given_two None q make live = absurd (live refl)
given_two (Some u) None make live = absurd (live refl)
given_two (Some u) (Some v) make live = (u, v, refl, refl)

load_known : (p : Program) (into : Option ℕ) (t : Ty) (a : Operand) (s : State) → Live (row_load p into t a s) → (u : ℕ) × (pointer_of p s.frame.registers a ≡ Some u)
unfolding row_load
load_known p into t a s live = given_known (pointer_of p s.frame.registers a) (λ at. fetched into (load_value p s.frame.registers s.byte t a) at (bytes_of_type p t) s) live

load_row : (p : Program) (into : Option ℕ) (t : Ty) (a : Operand) (s : State) (at : ℕ) (refused : Option Trap) → pointer_of p s.frame.registers a ≡ Some at
    → refusal p.regions false at (bytes_of_type p t) ≡ refused → row_load p into t a s ≡ fetched into (loaded p s.byte (width_of p.layout t) at refused) at (bytes_of_type p t) s
unfolding row_load load_value
load_row p into t a s at refused e g = rw (e, g) refl

store_known : (p : Program) (t : Ty) (v a : Operand) (s : State) → Live (row_store p t v a s) → (u n : ℕ) × (pointer_of p s.frame.registers a ≡ Some u) × (operand_of p s.frame.registers t v ≡ Some n)
unfolding row_store
store_known p t v a s live = given_two (pointer_of p s.frame.registers a) (operand_of p s.frame.registers t v) (λ at n. stored p at (bytes_of_type p t) n s (refusal p.regions true at (bytes_of_type p t))) live

store_row : (p : Program) (t : Ty) (v a : Operand) (s : State) (at n : ℕ) (refused : Option Trap) → pointer_of p s.frame.registers a ≡ Some at → operand_of p s.frame.registers t v ≡ Some n
    → refusal p.regions true at (bytes_of_type p t) ≡ refused → row_store p t v a s ≡ stored p at (bytes_of_type p t) n s refused
unfolding row_store
store_row p t v a s at n refused e f g = rw (e, f, g) refl

alloca_live : (o : Option ℕ) (make : ℕ → Valued) (into : Option ℕ) (s : State) → Live (allocated into (reading o make) s) → (u : ℕ) × (o ≡ Some u)
alloca_live None make into s live = absurd (live refl)
alloca_live (Some u) make into s live = (u, refl)

alloca_known : (p : Program) (into : Option ℕ) (t : Ty) (count : Option (ℕ × Operand)) (align : Option ℕ) (s : State) → Live (row_alloca p into t count align s) → (u : ℕ) × (count_of p s.frame.registers count ≡ Some u)
unfolding row_alloca alloca_value
alloca_known p into t count align s live =
    alloca_live (count_of p s.frame.registers count) (λ n. stack_place (lowered s.sp (n * type_stride p.layout p.sizes t) (stated_or align (type_align p.layout p.sizes t)))) into s live

alloca_row : (p : Program) (into : Option ℕ) (t : Ty) (count : Option (ℕ × Operand)) (align : Option ℕ) (s : State) (u : ℕ) → count_of p s.frame.registers count ≡ Some u
    → row_alloca p into t count align s ≡ allocated into (stack_place (lowered s.sp (u * type_stride p.layout p.sizes t) (stated_or align (type_align p.layout p.sizes t)))) s
unfolding row_alloca alloca_value
alloca_row p into t count align s u e = rw e refl

module _ (p : Program) (formed : IsTrue (is_formed p.layout)) (code : Code) (i : Instr) (s : State) (at : ℕ) (old : List ℕ) (here : IsFrameAt p.«module» s.frame at old) (fits : op_fits p.«module» p.layout p.sizes i.op ≡ true) (live : Live (row_of_op p i.result i.op s)) where
  abbrev Row' : Row
  Row' = row_of_op p i.result i.op s

  abbrev n : ℕ
  n = length s.frame.registers

  fits_as : (q : Op) → i.op ≡ q → op_fits p.«module» p.layout p.sizes q ≡ true
  fits_as q e = subst (λ (r : Op). op_fits p.«module» p.layout p.sizes r ≡ true) e fits

  row_as : (q : Op) → i.op ≡ q → Row' ≡ row_of_op p i.result q s
  row_as q e = ap (λ (r : Op). row_of_op p i.result r s) e

  live_as : (q : Op) → i.op ≡ q → Live (row_of_op p i.result q s)
  live_as q e = subst (λ (r : Op). Live (row_of_op p i.result r s)) e live

  -- ---- loads

  pub record Loading (w x : ℕ) : Type 0 where
    pub width : is_width w ≡ true
    pub place : ℕ
    pub address : Reads old code.constants p.layout.pointer x place
    pub row : (refused : Option Trap) → refusal p.regions false place (bytes_of_width w) ≡ refused → Row' ≡ fetched i.result (loaded p s.byte w place refused) place (bytes_of_width w) s

  pub load_one : (w into x : ℕ) (r : IsLoad (source_of p) n code w into x i) → Loading w x
  load_one w into x r =
      let q : Op = op.Load r.volatile r.t r.a in
      let parts = and_parts (is_scalar r.t) (operand_fits p.«module» p.layout p.sizes r.a) (fits_as q r.is) in
      let known = load_known p i.result r.t r.a s (live_as q r.is) in
      let pointer = pointer_width p.layout formed in
      record {
        width = subst (λ (k : ℕ). is_width k ≡ true) (sym r.width) (scalar_width p.layout r.t formed parts.0);
        place = known.0;
        address = reads p s.frame.registers old code.constants here.covers p.layout.pointer x known.0 r.a (some p.layout.pointer pointer) (most p.layout.pointer pointer) parts.1 r.address known.1;
        row = λ refused e. row_as q r.is ∙ load_row p i.result r.t r.a s known.0 refused known.1 (ap (λ (k : ℕ). refusal p.regions false known.0 (bytes_of_width k)) (sym r.width) ∙ e)
            ∙ ap (λ (k : ℕ). fetched i.result (loaded p s.byte k known.0 refused) known.0 (bytes_of_width k) s) (sym r.width);
      }

  pub load_ready : (w into x : ℕ) → into < length old → Loading w x → IsReadyLoad old code.constants w into x
  load_ready w into x inside t = record { width = t.width; address = t.address.slot; result = inside }

  -- ---- stores

  pub record Storing (w y x : ℕ) : Type 0 where
    pub width : is_width w ≡ true
    pub place : ℕ
    pub number : ℕ
    pub address : Reads old code.constants p.layout.pointer x place
    pub value : Reads old code.constants w y number
    pub row : (refused : Option Trap) → refusal p.regions true place (bytes_of_width w) ≡ refused → Row' ≡ stored p place (bytes_of_width w) number s refused

  pub store_one : (w y x : ℕ) (r : IsStore (source_of p) n code w y x i) → Storing w y x
  store_one w y x r =
      let q : Op = op.Store r.volatile r.t r.v r.a in
      let parts = and_parts (is_scalar r.t) (operand_fits p.«module» p.layout p.sizes r.v && operand_fits p.«module» p.layout p.sizes r.a) (fits_as q r.is) in
      let both = and_parts (operand_fits p.«module» p.layout p.sizes r.v) (operand_fits p.«module» p.layout p.sizes r.a) parts.1 in
      let known = store_known p r.t r.v r.a s (live_as q r.is) in
      let pointer = pointer_width p.layout formed in
      let width : is_width w ≡ true = subst (λ (k : ℕ). is_width k ≡ true) (sym r.width) (scalar_width p.layout r.t formed parts.0) in
      record {
        width = width;
        place = known.0;
        number = known.1;
        address = reads p s.frame.registers old code.constants here.covers p.layout.pointer x known.0 r.a (some p.layout.pointer pointer) (most p.layout.pointer pointer) both.1 r.address known.2;
        value = reads p s.frame.registers old code.constants here.covers w y known.1 r.v (some w width) (most w width) both.0 r.value (ap (λ (k : ℕ). operand p k s.frame.registers r.v) r.width ∙ known.3);
        row = λ refused e. row_as q r.is ∙ store_row p r.t r.v r.a s known.0 known.1 refused known.2 known.3 (ap (λ (k : ℕ). refusal p.regions true known.0 (bytes_of_width k)) (sym r.width) ∙ e)
            ∙ ap (λ (k : ℕ). stored p known.0 (bytes_of_width k) known.1 s refused) (sym r.width);
      }

  pub store_ready : (w y x : ℕ) → Storing w y x → IsReadyStore old code.constants w y x
  store_ready w y x t = record { width = t.width; value = number_in old code.constants w y t.number t.value; address = t.address.slot }

  -- ---- the stack

  pub record Allocating (x stride align : ℕ) : Type 0 where
    pub width : ℕ
    pub many : ℕ
    pub count : Reads old code.constants width x many
    pub some : 0 < align
    pub row : Row' ≡ allocated i.result (stack_place (lowered s.sp (many * stride) align)) s

  count_one : (count : Option (ℕ × Operand)) (x u : ℕ) → count_fits p.«module» p.layout p.sizes count ≡ true → IsCount (source_of p) n code count x → count_of p s.frame.registers count ≡ Some u
      → (w : ℕ) × Reads old code.constants w x u
  count_one None x u e slot is = (64, reads p s.frame.registers old code.constants here.covers 64 x u (operand'.Const (const.Int 1)) (omega arith) (omega arith) refl slot is)
  count_one (Some count) x u e slot is =
      let parts = and_parts (is_width count.0) (operand_fits p.«module» p.layout p.sizes count.1) e in
      (count.0, reads p s.frame.registers old code.constants here.covers count.0 x u count.1 (some count.0 parts.0) (most count.0 parts.0) parts.1 slot is)

  pub alloca_one : (into x stride align : ℕ) (r : IsAlloca (source_of p) n code into x stride align i) → Allocating x stride align
  alloca_one into x stride align r =
      let q : Op = op.Alloca r.t r.count r.stated in
      let parts = and_parts (type_fits p.layout p.sizes r.t) (count_fits p.«module» p.layout p.sizes r.count && align_fits r.stated) (fits_as q r.is) in
      let both = and_parts (count_fits p.«module» p.layout p.sizes r.count) (align_fits r.stated) parts.1 in
      let known = alloca_known p i.result r.t r.count r.stated s (live_as q r.is) in
      let counted = count_one r.count x known.0 both.0 r.many known.1 in
      record {
        width = counted.0;
        many = known.0;
        count = counted.1;
        some = r.some both.1;
        row = row_as q r.is ∙ alloca_row p i.result r.t r.count r.stated s known.0 known.1
            ∙ ap (λ (k : ℕ). allocated i.result (stack_place (lowered s.sp (known.0 * k) (stated_or r.stated (type_align p.layout p.sizes r.t)))) s) (sym (r.apart parts.0))
            ∙ ap (λ (k : ℕ). allocated i.result (stack_place (lowered s.sp (known.0 * stride) k)) s) (sym (r.aligned parts.0));
      }

  pub alloca_ready : (into x stride align : ℕ) → into < length old → Allocating x stride align → IsReadyAlloca old code.constants into x align
  alloca_ready into x stride align inside t = record { count = t.count.slot; some = t.some; result = inside }

  -- ---- what they did

  module _ (held : ℕ → Bool) (b : Beside) (stack : s.sp ≡ b.sp) (agrees : Agrees held b.byte s.byte) (new : List ℕ) where
    abbrev Said : Did → Type 0
    Said d = Means p at old new b.sp b.sp_after held b.byte b.after s Row' d

    pub loaded_means : (w into x : ℕ) (d : Did) → Loading w x → IsInto n i.result into → b.after ≡ b.byte → b.sp_after ≡ b.sp → Loads p.regions held b.byte p.layout.big w (value_at code old x) into old new d → Said d
    loaded_means w into x did.Next t is bytes same did =
        let size = bytes_of_width w in
        let some : 0 < size = some_bytes w t.width in
        let done : access p.regions held false t.place size ≡ Done = subst (λ (k : ℕ). access p.regions held false k size ≡ Done) t.address.is did.0 in
        let e = t.row None (not_refused p.regions held false t.place size done) in
        let value : ℕ = read_number p.layout.big s.byte t.place size % 2 ^ w in
        let number : read_number p.layout.big b.byte (value_at code old x) size % 2 ^ w ≡ value =
        ap (λ (k : ℕ). read_number p.layout.big b.byte k size % 2 ^ w) t.address.is ∙ ap (λ (l : List ℕ). number_of p.layout.big l % 2 ^ w) (done_agrees p.regions held false b.byte s.byte t.place size some done agrees) in
        record {
          state = record s { frame = assigned i.result value s.frame };
          next = ap (λ (r : Row). r.next) e;
          cost = ap (λ (r : Row). r.cost) e;
          frame = subst (λ (l : List ℕ). IsFrameAt p.«module» (assigned i.result value s.frame) (at + 1) l) (sym (did.1 ∙ ap (λ (k : ℕ). slice_set old into k) number)) (assigned_at p.«module» s.frame at old i.result into value is here);
          saved = refl;
          callers = refl;
          sp_is = stack ∙ sym same;
          heap = refl;
          input = refl;
          agrees = subst (λ (f : ℕ → ℕ). Agrees held f s.byte) (sym bytes) agrees;
          present = subst (λ (r : Row). AreHeld held (needed r)) (sym e) (subst (AreHeld held) (sym (append-nil (span_of t.place size))) (spans_held p.regions held false t.place size some done));
        }
    loaded_means w into x (did.WantPage page) t is bytes same did =
        let size = bytes_of_width w in
        let there : access p.regions held false t.place size ≡ Missing page = subst (λ (k : ℕ). access p.regions held false k size ≡ Missing page) t.address.is did.0 in
        let e = t.row None (absent_not_refused p.regions held false t.place size page there) in (
          ap (λ (r : Row). r.cost) e,
          subst (λ (r : Row). IsLowestAbsent held (needed r) page) (sym e) (subst (λ ss. IsLowestAbsent held ss page) (sym (append-nil (span_of t.place size))) (lowest_of p.regions held false t.place size (some_bytes w t.width) page there)),
          record { slots = did.1; bytes = bytes; stack = same },
        )
    loaded_means w into x (did.Trapped trap) t is bytes same did =
        let size = bytes_of_width w in
        let there : access p.regions held false t.place size ≡ Refused trap = subst (λ (k : ℕ). access p.regions held false k size ≡ Refused trap) t.address.is did.0 in
        (t.row (Some trap) (refused p.regions held false t.place size trap there), record { slots = did.1; bytes = bytes; stack = same })
    loaded_means w into x _ t is bytes same did = absurd did

    pub stored_means : (w y x : ℕ) (d : Did) → Storing w y x → b.sp_after ≡ b.sp → new ≡ old → Stores p.regions held b.byte b.after p.layout.big w (value_at code old x) (value_at code old y) d → Said d
    stored_means w y x did.Next t same slots did =
        let size = bytes_of_width w in
        let some : 0 < size = some_bytes w t.width in
        let done : access p.regions held true t.place size ≡ Done = subst (λ (k : ℕ). access p.regions held true k size ≡ Done) t.address.is did.0 in
        let e = t.row None (not_refused p.regions held true t.place size done) in
        let wrote : b.after ≡ write_number p.layout.big b.byte t.place size t.number =
        did.1 ∙ ap (λ (k : ℕ). write_number p.layout.big b.byte k size (value_at code old y)) t.address.is ∙ ap (λ (k : ℕ). write_number p.layout.big b.byte t.place size k) t.value.is in
        record {
          state = record s { frame = moved s.frame; byte = write_number p.layout.big s.byte t.place size t.number };
          next = ap (λ (r : Row). r.next) e;
          cost = ap (λ (r : Row). r.cost) e;
          frame = subst (λ (l : List ℕ). IsFrameAt p.«module» (moved s.frame) (at + 1) l) (sym slots) (moved_at p.«module» s.frame at old here);
          saved = refl;
          callers = refl;
          sp_is = stack ∙ sym same;
          heap = refl;
          input = refl;
          agrees = subst (λ (f : ℕ → ℕ). Agrees held f (write_number p.layout.big s.byte t.place size t.number)) (sym wrote) (writes_agree held b.byte s.byte t.place (bytes_of p.layout.big size t.number) agrees);
          present = subst (λ (r : Row). AreHeld held (needed r)) (sym e) (spans_held p.regions held true t.place size some done);
        }
    stored_means w y x (did.WantPage page) t same slots did =
        let size = bytes_of_width w in
        let there : access p.regions held true t.place size ≡ Missing page = subst (λ (k : ℕ). access p.regions held true k size ≡ Missing page) t.address.is did.0 in
        let e = t.row None (absent_not_refused p.regions held true t.place size page there) in (
          ap (λ (r : Row). r.cost) e,
          subst (λ (r : Row). IsLowestAbsent held (needed r) page) (sym e) (lowest_of p.regions held true t.place size (some_bytes w t.width) page there),
          record { slots = slots; bytes = did.1; stack = same },
        )
    stored_means w y x (did.Trapped trap) t same slots did =
        let size = bytes_of_width w in
        let there : access p.regions held true t.place size ≡ Refused trap = subst (λ (k : ℕ). access p.regions held true k size ≡ Refused trap) t.address.is did.0 in
        (t.row (Some trap) (refused p.regions held true t.place size trap there), record { slots = slots; bytes = did.1; stack = same })
    stored_means w y x did.NoMemory t same slots did = record { slots = slots; bytes = did; stack = same }
    stored_means w y x _ t same slots did = absurd did

    pub allocated_means : (into x stride align : ℕ) (d : Did) → Allocating x stride align → IsInto n i.result into → b.after ≡ b.byte → Allocates b.sp (value_at code old x * stride) align into old new b.sp_after d → Said d
    allocated_means into x stride align did.Next t is bytes did =
        let place : lowered s.sp (t.many * stride) align ≡ Some b.sp_after = ap (λ (k : ℕ). lowered k (t.many * stride) align) stack ∙ ap (λ (k : ℕ). lowered b.sp (k * stride) align) (sym t.count.is) ∙ did.0 in
        let e : Row' ≡ allocated i.result (Number b.sp_after) s = t.row ∙ ap (λ (o : Option ℕ). allocated i.result (stack_place o) s) place in
        record {
          state = record s { frame = assigned i.result b.sp_after s.frame; sp = b.sp_after };
          next = ap (λ (r : Row). r.next) e;
          cost = ap (λ (r : Row). r.cost) e;
          frame = subst (λ (l : List ℕ). IsFrameAt p.«module» (assigned i.result b.sp_after s.frame) (at + 1) l) (sym did.1) (assigned_at p.«module» s.frame at old i.result into b.sp_after is here);
          saved = refl;
          callers = refl;
          sp_is = refl;
          heap = refl;
          input = refl;
          agrees = subst (λ (f : ℕ → ℕ). Agrees held f s.byte) (sym bytes) agrees;
          present = subst (λ (r : Row). AreHeld held (needed r)) (sym e) (none_needed held);
        }
    allocated_means into x stride align (did.Trapped t') t is bytes did =
        let place : lowered s.sp (t.many * stride) align ≡ None = ap (λ (k : ℕ). lowered k (t.many * stride) align) stack ∙ ap (λ (k : ℕ). lowered b.sp (k * stride) align) (sym t.count.is) ∙ did.0 in
        (t.row ∙ ap (λ (o : Option ℕ). allocated i.result (stack_place o) s) place ∙ ap trapping (sym did.1), record { slots = did.2; bytes = bytes; stack = did.3 })
    allocated_means into x stride align _ t is bytes did = absurd did
