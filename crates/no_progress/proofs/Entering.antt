-- Calls of defined functions: arguments and results of one type, and the frame at an entry.
use Rattle.std.proofs.Common.{◌≡◌, ℕ, ◌+◌, ◌-◌, ◌<◌, ◌≤◌, ◌==◌, ◌&&◌, nat_lt, Bool, true, false, true≢false, eqb-true, Option, Some, None, if◌then◌else◌, List, [], ◌∷◌, length, map, take, slice_get, refl, sym, ap, ◌∙◌, subst, arith, length-set}
use Rattle.std.proofs.lemmas.Bool.{ltb-false}
use Rattle.std.proofs.lemmas.List.{length-replicate}
use Rattle.std.proofs.lemmas.Option.{slice_get_within}
use Rattle.no_ir.specs.declared.types.Ty.{Ty, out-Ty}
use Rattle.no_ir.specs.declared.types.Ty.TheOpen.{Ty-F}
use Rattle.no_ir.specs.declared.ending.Trap.TheVariants.{StackOverflow}
use Rattle.no_ir.specs.declared.instruction.Operand.{Operand}
use Rattle.no_ir.specs.declared.instruction.Instr.{Instr}
use Rattle.no_ir.specs.declared.function.Block.{Block}
use Rattle.no_ir.specs.declared.function.Function.{Function}
use Rattle.no_layout.specs.Memory.{stack_start, stack_end}
use Rattle.no_layout.specs.declared.layout.Layout.{Layout}
use Rattle.no_module.specs.Instructions.{is_phi}
use Rattle.no_module.specs.declared.scalar.Scalar.{Scalar}
use Rattle.no_module.specs.declared.scalar.Scalar.TheVariants as scalar
use Rattle.no_module.specs.Scalars.{integer, scalar_step, scalar_of, agree, void_step, is_void, same_result}
use Rattle.no_module.specs.Widths.{is_width}
use Rattle.no_module.specs.Functions.{is_declared, has_no_blocks}
use Rattle.no_verify_paths.specs.Paths.{code_in, code_of, assigns, is_among, is_parameter}
use Rattle.no_semantics.specs.Registers.{Registers, given}
use Rattle.no_semantics.specs.Rows.{plain, trapping}
use Rattle.no_semantics.specs.States.{Frame, State, function_at, put}
use Rattle.no_semantics.specs.Control.{phi_count}
use Rattle.no_semantics.specs.Calls.{call_room, is_passed, are_passed, passed, unassigned, entry_frame, called, entered}
use Rattle.no_semantics.specs.Values.{Program, width_of, width_step}
use Rattle.no_progress.specs.Proper.{Each, bits, IsProper, IsSafe}
use Rattle.no_progress.specs.Valid.{Held, IsOnStack, IsFrameOf, IsCallerOf, AreCallers, IsStateOf, Fine}
use Rattle.no_progress.proofs.Reading.{AreBelow, put_here, put_kept}
use Rattle.no_progress.proofs.Frames.{or2, count_none, at_begin}
use Rattle.no_progress.proofs.Stepping.{state_of}

-- ---- types that agree have one width

agree_none : (o : Option Scalar) → agree o None ≡ true → ⊥
agree_none None e = true≢false (sym e)
agree_none (Some s) e = true≢false (sym e)

agree_ints : (w v : ℕ) (b c : Bool) → agree (if b then Some (scalar.Int w) else None) (if c then Some (scalar.Int v) else None) ≡ true → w ≡ v
agree_ints w v true true e = eqb-true w v e
agree_ints w v true false e = absurd (true≢false (sym e))
agree_ints w v false c e = absurd (true≢false (sym e))

agree_int_ptr : (w : ℕ) (b : Bool) → agree (if b then Some (scalar.Int w) else None) (Some scalar.Ptr) ≡ true → ⊥
agree_int_ptr w true e = true≢false (sym e)
agree_int_ptr w false e = true≢false (sym e)

agree_ptr_int : (w : ℕ) (b : Bool) → agree (Some scalar.Ptr) (if b then Some (scalar.Int w) else None) ≡ true → ⊥
agree_ptr_int w true e = true≢false (sym e)
agree_ptr_int w false e = true≢false (sym e)

abbrev pub Alike : Layout → Ty-F Ty → Ty-F Ty → Type 0
Alike l t u = (width_step l t ≡ width_step l u) × (void_step t ≡ false) × (void_step u ≡ false)

agree_steps : (l : Layout) (t u : Ty-F Ty) → agree (scalar_step t) (scalar_step u) ≡ true → Alike l t u
agree_steps l (Ty-F.Int w) (Ty-F.Int v) e = (agree_ints w v (is_width w) (is_width v) e, refl, refl)
agree_steps l (Ty-F.Int w) Ty-F.Ptr e = absurd (agree_int_ptr w (is_width w) e)
agree_steps l (Ty-F.Int w) Ty-F.Void e = absurd (agree_none (integer w) e)
agree_steps l (Ty-F.Int w) (Ty-F.Array c t) e = absurd (agree_none (integer w) e)
agree_steps l (Ty-F.Int w) (Ty-F.Struct p ts) e = absurd (agree_none (integer w) e)
agree_steps l (Ty-F.Int w) (Ty-F.Named k) e = absurd (agree_none (integer w) e)
agree_steps l Ty-F.Ptr Ty-F.Ptr e = (refl, refl, refl)
agree_steps l Ty-F.Ptr (Ty-F.Int w) e = absurd (agree_ptr_int w (is_width w) e)
agree_steps l Ty-F.Ptr Ty-F.Void e = absurd (true≢false (sym e))
agree_steps l Ty-F.Ptr (Ty-F.Array c t) e = absurd (true≢false (sym e))
agree_steps l Ty-F.Ptr (Ty-F.Struct p ts) e = absurd (true≢false (sym e))
agree_steps l Ty-F.Ptr (Ty-F.Named k) e = absurd (true≢false (sym e))
agree_steps l Ty-F.Void u e = absurd (true≢false (sym e))
agree_steps l (Ty-F.Array c t) u e = absurd (true≢false (sym e))
agree_steps l (Ty-F.Struct p ts) u e = absurd (true≢false (sym e))
agree_steps l (Ty-F.Named k) u e = absurd (true≢false (sym e))

pub agree_alike : (l : Layout) (t u : Ty) → agree (scalar_of t) (scalar_of u) ≡ true → Alike l (out-Ty t) (out-Ty u)
agree_alike l t u e = agree_steps l (out-Ty t) (out-Ty u) e

pub and_parts : (a b : Bool) → (a && b) ≡ true → (a ≡ true) × (b ≡ true)
and_parts true b e = (refl, e)
and_parts false b e = absurd (true≢false (sym e))

-- two results that are the same
pub same_bits : (p : Program) (t u : Ty) → same_result t u ≡ true → bits p t ≡ bits p u
same_bits p t u e = or2 (is_void t && is_void u) (agree (scalar_of t) (scalar_of u)) e
    (λ h. let both = and_parts (is_void t) (is_void u) h in
    ap (λ (b : Bool). if b then None else Some (width_of p.layout t)) both.0 ∙ sym (ap (λ (b : Bool). if b then None else Some (width_of p.layout u)) both.1))
    (λ h. let a = agree_alike p.layout t u h in
    ap (λ (b : Bool). if b then None else Some (width_of p.layout t)) a.1 ∙ ap Some a.0 ∙ sym (ap (λ (b : Bool). if b then None else Some (width_of p.layout u)) a.2))

abbrev pub param_widths : Program → List (ℕ × Ty) → List ℕ
param_widths p params = map (λ (q : ℕ × Ty). width_of p.layout q.1) params

abbrev pub argument_widths : Program → List (Ty × Operand) → List ℕ
argument_widths p args = map (λ (a : Ty × Operand). width_of p.layout a.0) args

pub same_widths : (p : Program) (args : List (Ty × Operand)) (params : List (ℕ × Ty)) → are_passed args params ≡ true → argument_widths p args ≡ param_widths p params
same_widths p [] [] e = refl
same_widths p [] (q ∷ params) e = absurd (true≢false (sym e))
same_widths p (a ∷ args) [] e = absurd (true≢false (sym e))
same_widths p (a ∷ args) (q ∷ params) e =
    let parts = and_parts (is_passed a q) (are_passed args params) e in
    let one = agree_alike p.layout a.0 q.1 parts.0 in
    ap (λ (w : ℕ). w ∷ argument_widths p args) one.0 ∙ ap (λ (ws : List ℕ). width_of p.layout q.1 ∷ ws) (same_widths p args params parts.1)

-- ---- parameters

-- registers with an argument in each parameter
pub record Passed (width : ℕ → Option ℕ) (params : List (ℕ × Ty)) (ns : List ℕ) (rs : Registers) : Type 0 where
  pub out : Registers
  pub is : passed params ns rs ≡ Some out
  pub long : length out ≡ length rs
  pub kept : (r : ℕ) → Held width rs r → Held width out r
  pub new : (r : ℕ) → is_among params r ≡ true → Held width out r

pub passes : (p : Program) (count : ℕ) (width : ℕ → Option ℕ) (params : List (ℕ × Ty)) (ns : List ℕ) (rs : Registers) → count ≡ length rs
    → Each (λ (q : ℕ × Ty). (q.0 < count) × (width q.0 ≡ Some (width_of p.layout q.1))) params → AreBelow ns (param_widths p params) → Passed width params ns rs
passes p count width [] [] rs long fits small = record { out = rs; is = refl; long = refl; kept = λ r h. h; new = λ r e. absurd (true≢false (sym e)) }
passes p count width [] (n ∷ ns) rs long fits small = absurd small
passes p count width (q ∷ params) [] rs long fits small = absurd small
passes p count width (q ∷ params) (n ∷ ns) rs long fits small =
    let rest : Passed width params ns (put q.0 n rs) = passes p count width params ns (put q.0 n rs) (long ∙ sym (length-set rs q.0 (Some n))) fits.1 small.1 in
    record {
      out = rest.out;
      is = rest.is;
      long = rest.long ∙ length-set rs q.0 (Some n);
      kept = λ r h. rest.kept r (put_kept width rs q.0 n r (width_of p.layout q.1) fits.0.1 small.0 h);
      new = λ r e. or2 (q.0 == r) (is_among params r) e
          (λ h. rest.kept r (subst (λ (x : ℕ). Held width (put q.0 n rs) x) (eqb-true q.0 r h) (put_here width rs q.0 n (width_of p.layout q.1) (subst (λ (x : ℕ). q.0 < x) long fits.0.0) fits.0.1 small.0)))
          (λ h. rest.new r h);
    }

-- ---- entries

first_block : (blocks : List Block) → has_no_blocks blocks ≡ false → (b : Block) × (slice_get blocks 0 ≡ Some b)
first_block [] e = absurd (true≢false e)
first_block (b ∷ more) e = (b, refl)

no_phis : (code : List Instr) → 0 < length code → ((i : Instr) → slice_get code 0 ≡ Some i → is_phi i.op ≡ false) → phi_count code ≡ 0
no_phis [] some plain = absurd (omega (arith, some))
no_phis (i ∷ more) some plain = count_none i.op (phi_count more) (plain i refl)

module _ (p : Program) (safe : IsSafe p) where
  -- the frame at the entry of a function
  pub record Entry (k : ℕ) (g : Function) (ns : List ℕ) (saved : ℕ) : Type 0 where
    pub frame : Frame
    pub is : entry_frame k g ns saved ≡ Some frame
    pub same : frame.function ≡ k
    pub of : IsFrameOf p safe frame

  pub entry : (k : ℕ) (g : Function) (ns : List ℕ) (saved : ℕ) → function_at p k ≡ Some g → is_declared g ≡ false → AreBelow ns (param_widths p g.params) → IsOnStack saved → Entry k g ns saved
  unfolding code_of is_parameter assigns
  entry k g ns saved is def small on =
      let good : IsProper p g = safe.defined k g is def in
      let made : Passed good.width g.params ns (unassigned g) = passes p (length g.registers) good.width g.params ns (unassigned g) (sym (length-replicate {A = Option ℕ} (length g.registers) None)) good.params small in
      let first : (b : Block) × (slice_get g.blocks 0 ≡ Some b) = first_block g.blocks def in
      let code : code_of g 0 ≡ first.0.instrs = ap code_in first.1 in
      let none : phi_count first.0.instrs ≡ 0 = no_phis first.0.instrs
      (subst (λ (l : List Instr). 0 < length l) code (good.some 0 (slice_get_within g.blocks 0 first.0 first.1)))
      (λ i e. good.entry i (ap (λ (l : List Instr). slice_get l 0) code ∙ e)) in
      let f : IsFrameOf p safe (record { function = k; block = 0; at = phi_count first.0.instrs; registers = made.out; saved = saved }) =
      at_begin p safe k g 0 saved first.0 made.out [] is def first.1 refl on (made.long ∙ length-replicate {A = Option ℕ} (length g.registers) None)
      (λ r h. made.new r h)
      (λ r h. absurd (true≢false (sym (sym (ap (λ (n : ℕ). assigns r (take n first.0.instrs)) none) ∙ h)))) in
      record {
        frame = record { function = k; block = 0; at = 0; registers = made.out; saved = saved };
        is = ap (λ (o : Option Registers). given None o (λ registers. Some (record { function = k; block = 0; at = 0; registers = registers; saved = saved }))) made.is;
        same = refl;
        of = subst (λ (n : ℕ). IsFrameOf p safe (record { function = k; block = 0; at = n; registers = made.out; saved = saved })) none f;
      }

  pub enters : (s : State) (is : IsStateOf p safe s) (k : ℕ) (g : Function) (ns : List ℕ) → function_at p k ≡ Some g → is_declared g ≡ false → AreBelow ns (param_widths p g.params)
      → (caller : IsCallerOf p safe (bits p g.result) s.frame) → AreCallers p safe (bits p caller.stands.function.result) s.callers → Fine p safe (entered k g ns s).next
  enters s is k g ns found def small caller callers = by_room (nat_lt s.sp (stack_start + call_room)) refl
    where
      by_room : (b : Bool) → nat_lt s.sp (stack_start + call_room) ≡ b → Fine p safe (if b then trapping StackOverflow else called k ns (s.sp - call_room) s (entry_frame k g ns s.sp)).next
      by_room true e = tt
      by_room false e =
          let room : stack_start + call_room ≤ s.sp = ltb-false s.sp (stack_start + call_room) e in
          let most : s.sp ≤ stack_end = is.sp.1 in
          let at : Entry k g ns s.sp = entry k g ns s.sp found def small is.sp in
          let low : stack_start ≤ s.sp - call_room = omega (arith, room) in
          let high : s.sp - call_room ≤ stack_end = omega (arith, most) in
          subst (λ (o : Option Frame). Fine p safe (called k ns (s.sp - call_room) s o).next) (sym at.is)
          (state_of p safe at.frame g (s.frame ∷ s.callers) (s.sp - call_room) s.byte s.heap s.input (ap (function_at p) at.same ∙ found) at.of (caller, callers) (low, high) is.heap is.input)
