-- Which bytes an instruction needs: those that lie in a region.
use Rattle.std.proofs.Common.{◌≡◌, ◌≢◌, ℕ, zero, suc, ◌+◌, ◌-◌, ◌*◌, ◌≤◌, ◌==◌, nat_lt, inl, inr, Bool, true, false, if◌then◌else◌, List, [], ◌∷◌, ◌++◌, Option, Some, None, refl, sym, subst, arith}
use Rattle.std.proofs.lemmas.Bool.{cases_Bool, eqb-false}
use Rattle.no_heap.specs.Blocks.{AreLive, size_at}
use Rattle.no_heap.specs.Fit.{fit}
use Rattle.no_ir.specs.declared.ending.Trap.{Trap}
use Rattle.no_ir.specs.declared.function.Function.{Function}
use Rattle.no_ir.specs.declared.instruction.Op.{Op}
use Rattle.no_ir.specs.declared.instruction.Op.TheVariants as op
use Rattle.no_ir.specs.declared.instruction.Operand.{Operand}
use Rattle.no_ir.specs.declared.types.Ty.{Ty}
use Rattle.no_layout.specs.Memory.{IsPage, read_bytes, refusal, stack_start}
use Rattle.no_layout.specs.declared.memory.Regions.{Regions}
use Rattle.no_module.specs.Externals.{external_of}
use Rattle.no_module.specs.Functions.{is_declared}
use Rattle.no_module.specs.declared.external.External.{External}
use Rattle.no_module.specs.declared.external.External.TheVariants as external
use Rattle.no_semantics.specs.Access.{allocated, fetched, stored, row_alloca, row_load, row_store}
use Rattle.no_semantics.specs.Acting.{row, row_of_instr, row_of_op, step}
use Rattle.no_semantics.specs.Calls.{arguments_of, call_room, called, calling, callee_value, entered, entry_frame, invoked, outcome_row, returned, returned_in, row_call, row_external, row_map, row_ret, row_room, row_effect}
use Rattle.no_semantics.specs.Control.{arrived, branched, case_label, go, row_br, row_cond_br, row_switch}
use Rattle.no_semantics.specs.Externals as ext
use Rattle.no_semantics.specs.Registers.{given, operand, operand_of, pointer_of}
use Rattle.no_semantics.specs.Results.{Valued, Number, Traps, NoValue, bytes_of_type, load_value, loaded, reading}
use Rattle.no_semantics.specs.Rows.{Row, affordable, charged, computed, limited, needed, stuck}
use Rattle.no_semantics.specs.Spans.{Span, Touches, span_of}
use Rattle.no_semantics.specs.States.{Frame, State, instr_at, function_at}
use Rattle.no_semantics.specs.Values.{Program, width_of}
use Rattle.no_machine.proofs.Lying.{AreIn, Lie, allowed, block_in, lie_all, room_in, span_lies, touched_page}

-- ---- externals

module _ (r : Regions) where
  abbrev EffIn : ext.Effect → Type 0
  EffIn e = Lie r e.sought × Lie r e.reads × Lie r e.writes

  put_in : (o : Option Trap) (reads : List Span) (at n : ℕ) (bytes : List ℕ) (w : ext.World) → (o ≡ None → Lie r reads × AreIn r at n) → EffIn (ext.put_bytes o reads at n bytes w)
  put_in None reads at n bytes w are = (tt, (are refl).0, span_lies r at n (are refl).1)
  put_in (Some t) reads at n bytes w are = (tt, tt, tt)

  first_none : (a b : Option Trap) → ext.first_refusal a b ≡ None → (a ≡ None) × (b ≡ None)
  first_none None b e = (refl, e)
  first_none (Some t) b e = absurd cc

  move_in : (to from n : ℕ) (w : ext.World) → EffIn (ext.do_move r to from n w)
  unfolding ext.do_move
  move_in to from n w = elim (cases_Bool (n == 0)) [
    | inl is ↦ rw is (tt, tt, tt)
    | inr other ↦
        subst (λ (b : Bool). EffIn (if b then ext.still (ext.Does 1) w else ext.put_bytes (ext.first_refusal (refusal r false from n) (refusal r true to n)) (span_of from n) to n (read_bytes w.byte from n) w)) (sym other)
        (put_in (ext.first_refusal (refusal r false from n) (refusal r true to n)) (span_of from n) to n (read_bytes w.byte from n) w
        (λ e. let f = first_none (refusal r false from n) (refusal r true to n) e in (span_lies r from n (allowed r false from n f.0), allowed r true to n f.1)))
  ]

  set_in : (to value n : ℕ) (w : ext.World) → EffIn (ext.do_set r to value n w)
  unfolding ext.do_set
  set_in to value n w = elim (cases_Bool (n == 0)) [
    | inl is ↦ rw is (tt, tt, tt)
    | inr other ↦ rw other (put_in (refusal r true to n) [] to n _ w (λ e. (tt, allowed r true to n e)))
  ]

  length_most : (byte : ℕ → ℕ) (at n : ℕ) → ext.text_length byte at n ≤ n
  length_most byte at zero = omega arith
  length_most byte at (suc n) = elim (cases_Bool (byte at == 0)) [
    | inl is ↦ rw is (omega arith)
    | inr other ↦ (let h = length_most byte (at + 1) n in rw other (omega (arith, h)))
  ]

  text_in : (l at : ℕ) (w : ext.World) → l ≤ ext.room_of r at → EffIn (ext.put_text (ext.room_of r at) l at w)
  text_in l at w most = elim (cases_Bool (l == ext.room_of r at)) [
    | inl is ↦ rw is (span_lies r at (ext.room_of r at) (room_in r at), tt, tt)
    | inr other ↦
        let apart : l ≢ ext.room_of r at = eqb-false l (ext.room_of r at) other in
        rw other (span_lies r at (l + 1) (λ x above below. room_in r at x above (omega (arith, below, most, apart))), tt, tt)
  ]

  puts_in : (at : ℕ) (w : ext.World) → EffIn (ext.do_puts r at w)
  unfolding ext.do_puts
  puts_in at w = text_in (ext.text_length w.byte at (ext.room_of r at)) at w (length_most w.byte at (ext.room_of r at))

  malloc_in : (size : ℕ) (w : ext.World) → EffIn (ext.do_malloc size w)
  unfolding ext.do_malloc
  malloc_in size w = (tt, tt, tt)

  cleared_in : (o : Option ℕ) (size : ℕ) (w : ext.World) → AreLive w.heap → fit w.heap size ≡ o → EffIn (ext.cleared o size w)
  cleared_in None size w live is = (tt, tt, tt)
  cleared_in (Some place) size w live is = (tt, tt, span_lies r place size (block_in r w.heap size place live is))

  calloc_in : (count size : ℕ) (w : ext.World) → AreLive w.heap → EffIn (ext.do_calloc count size w)
  unfolding ext.do_calloc
  calloc_in count size w live = cleared_in (fit w.heap (count * size)) (count * size) w live refl

  free_in : (at : ℕ) (w : ext.World) → EffIn (ext.do_free at w)
  unfolding ext.do_free
  free_in at w = elim (cases_Bool (at == 0)) [
    | inl is ↦ rw is (tt, tt, tt)
    | inr other ↦ elim (cases_Bool (size_at w.heap at == 0)) [
      | inl none ↦ rw (other, none) (tt, tt, tt)
      | inr some ↦ rw (other, some) (tt, tt, tt)
    ]
  ]

  valued_in : (b : Bool) (v : ℕ) (w : ext.World) → EffIn (ext.valued b v w)
  valued_in true v w = (tt, tt, tt)
  valued_in false v w = (tt, tt, tt)

  getchar_in : (w : ext.World) → EffIn (ext.do_getchar w)
  unfolding ext.do_getchar
  getchar_in w = (tt, tt, tt)

  putchar_in : (c : ℕ) (w : ext.World) → EffIn (ext.do_putchar c w)
  unfolding ext.do_putchar
  putchar_in c w = (tt, tt, tt)

  swap_in : (n a : ℕ) (w : ext.World) → EffIn (ext.do_swap n a w)
  unfolding ext.do_swap
  swap_in n a w = valued_in _ _ w

  umin_in : (n a b : ℕ) (w : ext.World) → EffIn (ext.do_umin n a b w)
  unfolding ext.do_umin
  umin_in n a b w = valued_in _ _ w

  umax_in : (n a b : ℕ) (w : ext.World) → EffIn (ext.do_umax n a b w)
  unfolding ext.do_umax
  umax_in n a b w = valued_in _ _ w

  smin_in : (n a b : ℕ) (w : ext.World) → EffIn (ext.do_smin n a b w)
  unfolding ext.do_smin
  smin_in n a b w = valued_in _ _ w

  smax_in : (n a b : ℕ) (w : ext.World) → EffIn (ext.do_smax n a b w)
  unfolding ext.do_smax
  smax_in n a b w = valued_in _ _ w

  none_in : (args : List ℕ) (f : ext.World → ext.Effect) (w : ext.World) → EffIn (f w) → EffIn (ext.with_none args f w)
  none_in [] f w each = each
  none_in (a ∷ args) f w each = (tt, tt, tt)

  one_in : (args : List ℕ) (f : ℕ → ext.World → ext.Effect) (w : ext.World) → ((a : ℕ) → EffIn (f a w)) → EffIn (ext.with_one args f w)
  one_in [] f w each = (tt, tt, tt)
  one_in (a ∷ []) f w each = each a
  one_in (a ∷ b ∷ args) f w each = (tt, tt, tt)

  two_in : (args : List ℕ) (f : ℕ → ℕ → ext.World → ext.Effect) (w : ext.World) → ((a b : ℕ) → EffIn (f a b w)) → EffIn (ext.with_two args f w)
  two_in [] f w each = (tt, tt, tt)
  two_in (a ∷ []) f w each = (tt, tt, tt)
  two_in (a ∷ b ∷ []) f w each = each a b
  two_in (a ∷ b ∷ c ∷ args) f w each = (tt, tt, tt)

  four_in : (args : List ℕ) (f : ℕ → ℕ → ℕ → ext.World → ext.Effect) (w : ext.World) → ((a b c : ℕ) → EffIn (f a b c w)) → EffIn (ext.with_four args f w)
  four_in [] f w each = (tt, tt, tt)
  four_in (a ∷ []) f w each = (tt, tt, tt)
  four_in (a ∷ b ∷ []) f w each = (tt, tt, tt)
  four_in (a ∷ b ∷ c ∷ []) f w each = (tt, tt, tt)
  four_in (a ∷ b ∷ c ∷ d ∷ []) f w each = each a b c
  four_in (a ∷ b ∷ c ∷ d ∷ e ∷ args) f w each = (tt, tt, tt)

  external_in : (e : External) (args : List ℕ) (w : ext.World) → AreLive w.heap → EffIn (ext.do_external r e args w)
  external_in external.GetChar args w live = none_in args ext.do_getchar w (getchar_in w)
  external_in external.PutChar args w live = one_in args ext.do_putchar w (λ c. putchar_in c w)
  external_in external.Puts args w live = one_in args (ext.do_puts r) w (λ a. puts_in a w)
  external_in external.Malloc args w live = one_in args ext.do_malloc w (λ a. malloc_in a w)
  external_in external.Calloc args w live = two_in args ext.do_calloc w (λ a b. calloc_in a b w live)
  external_in external.Free args w live = one_in args ext.do_free w (λ a. free_in a w)
  external_in external.Exit args w live = one_in args ext.do_exit w (λ a. (tt, tt, tt))
  external_in external.Abort args w live = none_in args ext.do_abort w (tt, tt, tt)
  external_in external.Move args w live = four_in args (ext.do_move r) w (λ a b c. move_in a b c w)
  external_in external.Set args w live = four_in args (ext.do_set r) w (λ a b c. set_in a b c w)
  external_in (external.Swap n) args w live = one_in args (ext.do_swap n) w (λ a. swap_in n a w)
  external_in (external.UMin n) args w live = two_in args (ext.do_umin n) w (λ a b. umin_in n a b w)
  external_in (external.UMax n) args w live = two_in args (ext.do_umax n) w (λ a b. umax_in n a b w)
  external_in (external.SMin n) args w live = two_in args (ext.do_smin n) w (λ a b. smin_in n a b w)
  external_in (external.SMax n) args w live = two_in args (ext.do_smax n) w (λ a b. smax_in n a b w)
  external_in external.Hint args w live = (tt, tt, tt)
  external_in external.Alloca args w live = (tt, tt, tt)
  external_in external.Map args w live = (tt, tt, tt)

  -- ---- rows

  abbrev LiesIn : Row → Type 0
  LiesIn x = Lie r x.sought × Lie r x.reads × Lie r x.writes

  effect_in : (into : Option ℕ) (o : ext.Outcome) (e : ext.Effect) (s : State) → EffIn e → LiesIn (outcome_row into o e s)
  effect_in into (ext.Gives v cost) e s are = are
  effect_in into (ext.Does cost) e s are = are
  effect_in into (ext.Exits c) e s are = (tt, tt, tt)
  effect_in into (ext.Traps t) e s are = (are.0, tt, tt)
  effect_in into ext.Over e s are = (are.0, tt, tt)
  effect_in into ext.Stuck e s are = (tt, tt, tt)

module _ (p : Program) where
  abbrev RowIn : Row → Type 0
  RowIn x = Lie p.regions x.sought × Lie p.regions x.reads × Lie p.regions x.writes

  none : Unit {0} × Unit {0} × Unit {0}
  none = (tt, tt, tt)

  with_given : {A : Type 0} (o : Option A) (f : A → Row) → ((x : A) → RowIn (f x)) → RowIn (given stuck o f)
  with_given None f each = none
  with_given (Some x) f each = each x

  of_computed : (into : Option ℕ) (v : Valued) (s : State) → RowIn (computed into v s)
  of_computed into (Number n) s = none
  of_computed into (Traps t) s = none
  of_computed into NoValue s = none

  of_allocated : (into : Option ℕ) (v : Valued) (s : State) → RowIn (allocated into v s)
  of_allocated into (Number n) s = none
  of_allocated into (Traps t) s = none
  of_allocated into NoValue s = none

  of_arrived : (s : State) (f : Option Frame) → RowIn (arrived s f)
  of_arrived s None = none
  of_arrived s (Some f) = none

  of_alloca : (into : Option ℕ) (t : Ty) (count : Option (ℕ × Operand)) (align : Option ℕ) (s : State) → RowIn (row_alloca p into t count align s)
  unfolding row_alloca
  of_alloca into t count align s = of_allocated into _ s

  of_loaded : (into : Option ℕ) (t : Ty) (at w : ℕ) (s : State) (o : Option Trap) → refusal p.regions false at (bytes_of_type p t) ≡ o → RowIn (fetched into (loaded p s.byte w at o) at (bytes_of_type p t) s)
  of_loaded into t at w s None e = (tt, span_lies p.regions at (bytes_of_type p t) (allowed p.regions false at (bytes_of_type p t) e), tt)
  of_loaded into t at w s (Some trap) e = none

  of_load : (into : Option ℕ) (t : Ty) (a : Operand) (s : State) → RowIn (row_load p into t a s)
  unfolding row_load load_value
  of_load into t a s = of_read (pointer_of p s.frame.registers a)
    where
      of_read : (o : Option ℕ) → RowIn (given stuck o (λ at. fetched into (reading o (λ at. loaded p s.byte (width_of p.layout t) at (refusal p.regions false at (bytes_of_type p t)))) at (bytes_of_type p t) s))
      of_read None = none
      of_read (Some at) = of_loaded into t at (width_of p.layout t) s (refusal p.regions false at (bytes_of_type p t)) refl

  of_stored : (at size n : ℕ) (s : State) (o : Option Trap) → refusal p.regions true at size ≡ o → RowIn (stored p at size n s o)
  of_stored at size n s None e = (tt, tt, span_lies p.regions at size (allowed p.regions true at size e))
  of_stored at size n s (Some t) e = none

  of_store : (t : Ty) (v a : Operand) (s : State) → RowIn (row_store p t v a s)
  unfolding row_store
  of_store t v a s =
      with_given (pointer_of p s.frame.registers a) (λ at. given stuck (operand_of p s.frame.registers t v) (λ n. stored p at (bytes_of_type p t) n s (refusal p.regions true at (bytes_of_type p t))))
      (λ at. with_given (operand_of p s.frame.registers t v) (λ n. stored p at (bytes_of_type p t) n s (refusal p.regions true at (bytes_of_type p t))) (λ n. of_stored at (bytes_of_type p t) n s (refusal p.regions true at (bytes_of_type p t)) refl))

  of_done : (into : Option ℕ) (e : External) (ns : List ℕ) (s : State) (live : AreLive s.heap) → RowIn (row_effect into (ext.do_external p.regions e ns (record { byte = s.byte; heap = s.heap; input = s.input })) s)
  of_done into e ns s live =
      let w : ext.World = record { byte = s.byte; heap = s.heap; input = s.input } in
      effect_in p.regions into (ext.do_external p.regions e ns w).outcome (ext.do_external p.regions e ns w) s (external_in p.regions e ns w live)

  of_br : (l : ℕ) (s : State) → RowIn (row_br p l s)
  unfolding row_br
  of_br l s = of_arrived s _

  of_cond_br : (c : Operand) (l k : ℕ) (s : State) → RowIn (row_cond_br p c l k s)
  unfolding row_cond_br
  of_cond_br c l k s = with_given (operand p 1 s.frame.registers c) (λ x. go p s (if x == 1 then l else k)) (λ x. of_arrived s (branched p s.frame (if x == 1 then l else k)))

  of_switch : (w : ℕ) (a : Operand) (l : ℕ) (cases : List (ℕ × ℕ)) (s : State) → RowIn (row_switch p w a l cases s)
  unfolding row_switch
  of_switch w a l cases s = with_given (operand p w s.frame.registers a) (λ x. go p s (case_label x l cases)) (λ x. of_arrived s (branched p s.frame (case_label x l cases)))

  of_returned_in : (s : State) (callers : List Frame) (f : Option Frame) → RowIn (returned_in s callers f)
  of_returned_in s callers None = none
  of_returned_in s callers (Some f) = none

  of_returned : (value : Option ℕ) (callers : List Frame) (s : State) → RowIn (returned p value callers s)
  of_returned value [] s = none
  of_returned value (c ∷ callers) s = of_returned_in s callers _

  of_ret : (value : Option (Ty × Operand)) (s : State) → RowIn (row_ret p value s)
  unfolding row_ret
  of_ret None s = of_returned None s.callers s
  of_ret (Some x) s = with_given _ _ (λ n. of_returned (Some n) s.callers s)

  -- ---- externals

  of_room : (into : Option ℕ) (ns : List ℕ) (s : State) → RowIn (row_room into ns s)
  of_room into [] s = none
  of_room into (n ∷ []) s = none
  of_room into (n ∷ size ∷ []) s = none
  of_room into (n ∷ size ∷ align ∷ []) s = of_allocated into _ s
  of_room into (n ∷ size ∷ align ∷ b ∷ more) s = none

  of_map : (into : Option ℕ) (ns : List ℕ) (s : State) → RowIn (row_map p into ns s)
  of_map into [] s = none
  of_map into (at ∷ []) s = of_arrived s _
  of_map into (at ∷ b ∷ more) s = none

  of_external : (into : Option ℕ) (e : External) (ns : List ℕ) (s : State) (live : AreLive s.heap) → RowIn (row_external p into e ns s)
  of_external into external.Alloca ns s live = of_room into ns s
  of_external into external.Map ns s live = of_map into ns s
  of_external into external.GetChar ns s live = of_done into external.GetChar ns s live
  of_external into external.PutChar ns s live = of_done into external.PutChar ns s live
  of_external into external.Puts ns s live = of_done into external.Puts ns s live
  of_external into external.Malloc ns s live = of_done into external.Malloc ns s live
  of_external into external.Calloc ns s live = of_done into external.Calloc ns s live
  of_external into external.Free ns s live = of_done into external.Free ns s live
  of_external into external.Exit ns s live = of_done into external.Exit ns s live
  of_external into external.Abort ns s live = of_done into external.Abort ns s live
  of_external into external.Move ns s live = of_done into external.Move ns s live
  of_external into external.Set ns s live = of_done into external.Set ns s live
  of_external into (external.Swap n) ns s live = of_done into (external.Swap n) ns s live
  of_external into (external.UMin n) ns s live = of_done into (external.UMin n) ns s live
  of_external into (external.UMax n) ns s live = of_done into (external.UMax n) ns s live
  of_external into (external.SMin n) ns s live = of_done into (external.SMin n) ns s live
  of_external into (external.SMax n) ns s live = of_done into (external.SMax n) ns s live
  of_external into external.Hint ns s live = of_done into external.Hint ns s live

  -- ---- calls

  of_called : (k : ℕ) (ns : List ℕ) (sp : ℕ) (s : State) (f : Option Frame) → RowIn (called k ns sp s f)
  of_called k ns sp s None = none
  of_called k ns sp s (Some f) = none

  of_entered : (k : ℕ) (g : Function) (ns : List ℕ) (s : State) → RowIn (entered k g ns s)
  of_entered k g ns s = elim (cases_Bool (nat_lt s.sp (stack_start + call_room))) [
    | inl less ↦ rw less none
    | inr more ↦ rw more (of_called k ns (s.sp - call_room) s (entry_frame k g ns s.sp))
  ]

  of_invoked : (into : Option ℕ) (k : ℕ) (ns : List ℕ) (s : State) (live : AreLive s.heap) (g : Function) → RowIn (invoked p into k ns s g)
  of_invoked into k ns s live g = elim (cases_Bool (is_declared g)) [
    | inl is ↦ subst (λ (b : Bool). RowIn (if b then given stuck (external_of p.role g) (λ e. row_external p into e ns s) else entered k g ns s)) (sym is)
        (with_given (external_of p.role g) (λ e. row_external p into e ns s) (λ e. of_external into e ns s live))
    | inr other ↦ subst (λ (b : Bool). RowIn (if b then given stuck (external_of p.role g) (λ e. row_external p into e ns s) else entered k g ns s)) (sym other) (of_entered k g ns s)
  ]

  of_calling : (into : Option ℕ) (v : Valued) (args : List (Ty × Operand)) (s : State) (live : AreLive s.heap) → RowIn (calling p into v args s)
  of_calling into (Number k) args s live =
      with_given (arguments_of p s.frame.registers args) (λ ns. given stuck (function_at p k) (invoked p into k ns s))
      (λ ns. with_given (function_at p k) (invoked p into k ns s) (λ g. of_invoked into k ns s live g))
  of_calling into (Traps t) args s live = none
  of_calling into NoValue args s live = none

  of_call : (into : Option ℕ) (t : Ty) (callee : Operand) (args : List (Ty × Operand)) (s : State) (live : AreLive s.heap) → RowIn (row_call p into t callee args s)
  unfolding row_call
  of_call into t callee args s live = of_calling into (callee_value p s.frame.registers t callee args) args s live

  -- ---- all of them

  of_op : (into : Option ℕ) (o : Op) (s : State) (live : AreLive s.heap) → RowIn (row_of_op p into o s)
  of_op into (op.Binary o w a b) s live = of_computed into _ s
  of_op into (op.Compare o t a b) s live = of_computed into _ s
  of_op into (op.Cast o t a u) s live = of_computed into _ s
  of_op into (op.Freeze t a) s live = of_computed into _ s
  of_op into (op.Select c t a b) s live = of_computed into _ s
  of_op into (op.Phi t pairs) s live = none
  of_op into (op.Alloca t count align) s live = of_alloca into t count align s
  of_op into (op.Load volatile t a) s live = of_load into t a s
  of_op into (op.Store volatile t v a) s live = of_store t v a s
  of_op into (op.Gep t a indices) s live = of_computed into _ s
  of_op into (op.Call t callee args) s live = of_call into t callee args s live
  of_op into (op.Br l) s live = of_br l s
  of_op into (op.CondBr c l k) s live = of_cond_br c l k s
  of_op into (op.Switch w a l cases) s live = of_switch w a l cases s
  of_op into (op.Ret value) s live = of_ret value s
  of_op into op.Unreachable s live = none

  -- ---- within a budget

  of_charged : (inserted : Bool) (x : Row) → RowIn x → RowIn (charged inserted x)
  of_charged true x are = are
  of_charged false x are = are

  of_row : (s : State) (live : AreLive s.heap) → RowIn (row p s)
  unfolding row
  of_row s live = with_given (instr_at p s.frame) (row_of_instr p s) (λ i. of_charged i.inserted (row_of_op p i.result i.op s) (of_op i.result i.op s live))

  of_affordable : (left : ℕ) (x : Row) → RowIn x → RowIn (affordable left x)
  of_affordable left x are = elim (cases_Bool (nat_lt left x.cost)) [
    | inl less ↦ rw less (are.0, tt, tt)
    | inr enough ↦ rw enough are
  ]

  of_limited : (left : ℕ) (x : Row) → RowIn x → RowIn (limited left x)
  of_limited left x are = elim (cases_Bool (x.cost == 0)) [
    | inl free ↦ rw free are
    | inr costs ↦ elim (cases_Bool (left == 0)) [
      | inl spent ↦ rw (costs, spent) none
      | inr some ↦ rw (costs, some) (of_affordable left x are)
    ]
  ]

  -- each page that an instruction needs has a byte in a region
  pub needs_pages : (left : ℕ) (s : State) (q : ℕ) → AreLive s.heap → Touches (needed (step p left s)) q → IsPage p.regions q
  needs_pages left s q live touched =
      let are : RowIn (step p left s) = of_limited left (row p s) (of_row s live) in
      touched_page p.regions (needed (step p left s)) q
      (lie_all p.regions (step p left s).sought ((step p left s).reads ++ (step p left s).writes) are.0 (lie_all p.regions (step p left s).reads (step p left s).writes are.1 are.2)) touched
