-- Each instruction costs something, and what is done within a budget.
use Rattle.std.proofs.Common.{◌≡◌, ℕ, ◌+◌, ◌-◌, ◌≤◌, ◌==◌, nat_lt, inl, inr, Bool, true, false, if◌then◌else◌, List, [], ◌∷◌, Option, Some, None, refl, sym, subst, arith}
use Rattle.std.proofs.lemmas.Bool.{cases_Bool, eqb-true}
use Rattle.no_ir.specs.declared.ending.Trap.{Trap}
use Rattle.no_ir.specs.declared.function.Function.{Function}
use Rattle.no_ir.specs.declared.instruction.Instr.{Instr}
use Rattle.no_ir.specs.declared.instruction.Op.{Op}
use Rattle.no_ir.specs.declared.instruction.Op.TheVariants as op
use Rattle.no_ir.specs.declared.instruction.Operand.{Operand}
use Rattle.no_ir.specs.declared.types.Ty.{Ty}
use Rattle.no_layout.specs.Memory.{refusal, stack_start}
use Rattle.no_module.specs.Externals.{external_of}
use Rattle.no_module.specs.Functions.{is_declared}
use Rattle.no_module.specs.declared.external.External.{External}
use Rattle.no_module.specs.declared.external.External.TheVariants as external
use Rattle.no_semantics.specs.Access.{allocated, fetched, stored, row_alloca, row_load, row_store}
use Rattle.no_semantics.specs.Acting.{row, row_of_op}
use Rattle.no_semantics.specs.Calls.{arguments_of, call_room, called, calling, callee_value, entered, entry_frame, invoked, returned, returned_in, row_call, row_external, row_map, row_ret, row_room, row_effect}
use Rattle.no_semantics.specs.Control.{arrived, branched, case_label, go, row_br, row_cond_br, row_switch}
use Rattle.no_semantics.specs.Externals as ext
use Rattle.no_semantics.specs.Registers.{given, operand, operand_of, pointer_of}
use Rattle.no_semantics.specs.Results.{Valued, Number, Traps, NoValue, bytes_of_type, load_value}
use Rattle.no_semantics.specs.Rows.{Row, affordable, computed, limited, stuck, unfinished}
use Rattle.no_semantics.specs.States.{Frame, State, instr_at, function_at}
use Rattle.no_semantics.specs.Values.{Program}
use Rattle.no_lib.proofs.Effects.{one, costs, external_paid}

-- ---- rows

abbrev pub Costs : Row → Type 0
Costs r = 1 ≤ r.cost

with_given : {A : Type 0} (o : Option A) (f : A → Row) → ((x : A) → Costs (f x)) → Costs (given stuck o f)
with_given None f each = one
with_given (Some x) f each = each x

of_computed : (into : Option ℕ) (v : Valued) (s : State) → Costs (computed into v s)
of_computed into (Number n) s = one
of_computed into (Traps t) s = one
of_computed into NoValue s = one

of_allocated : (into : Option ℕ) (v : Valued) (s : State) → Costs (allocated into v s)
of_allocated into (Number n) s = one
of_allocated into (Traps t) s = one
of_allocated into NoValue s = one

of_fetched : (into : Option ℕ) (v : Valued) (at size : ℕ) (s : State) → Costs (fetched into v at size s)
of_fetched into (Number n) at size s = one
of_fetched into (Traps t) at size s = one
of_fetched into NoValue at size s = one

of_stored : (p : Program) (at size n : ℕ) (s : State) (o : Option Trap) → Costs (stored p at size n s o)
of_stored p at size n s None = one
of_stored p at size n s (Some t) = one

of_arrived : (s : State) (f : Option Frame) → Costs (arrived s f)
of_arrived s None = one
of_arrived s (Some f) = one

of_alloca : (p : Program) (into : Option ℕ) (t : Ty) (count : Option (ℕ × Operand)) (align : Option ℕ) (s : State) → Costs (row_alloca p into t count align s)
unfolding row_alloca
of_alloca p into t count align s = of_allocated into _ s

of_load : (p : Program) (into : Option ℕ) (t : Ty) (a : Operand) (s : State) → Costs (row_load p into t a s)
unfolding row_load
of_load p into t a s =
    with_given (pointer_of p s.frame.registers a) (λ at. fetched into (load_value p s.frame.registers s.byte t a) at (bytes_of_type p t) s) (λ at. of_fetched into (load_value p s.frame.registers s.byte t a) at (bytes_of_type p t) s)

of_store : (p : Program) (t : Ty) (v a : Operand) (s : State) → Costs (row_store p t v a s)
unfolding row_store
of_store p t v a s =
    with_given (pointer_of p s.frame.registers a) (λ at. given stuck (operand_of p s.frame.registers t v) (λ n. stored p at (bytes_of_type p t) n s (refusal p.regions true at (bytes_of_type p t))))
    (λ at. with_given (operand_of p s.frame.registers t v) (λ n. stored p at (bytes_of_type p t) n s (refusal p.regions true at (bytes_of_type p t))) (λ n. of_stored p at (bytes_of_type p t) n s (refusal p.regions true at (bytes_of_type p t))))

of_br : (p : Program) (l : ℕ) (s : State) → Costs (row_br p l s)
unfolding row_br
of_br p l s = of_arrived s _

of_cond_br : (p : Program) (c : Operand) (l k : ℕ) (s : State) → Costs (row_cond_br p c l k s)
unfolding row_cond_br
of_cond_br p c l k s = with_given (operand p 1 s.frame.registers c) (λ x. go p s (if x == 1 then l else k)) (λ x. of_arrived s (branched p s.frame (if x == 1 then l else k)))

of_switch : (p : Program) (w : ℕ) (a : Operand) (l : ℕ) (cases : List (ℕ × ℕ)) (s : State) → Costs (row_switch p w a l cases s)
unfolding row_switch
of_switch p w a l cases s = with_given (operand p w s.frame.registers a) (λ x. go p s (case_label x l cases)) (λ x. of_arrived s (branched p s.frame (case_label x l cases)))

of_returned_in : (s : State) (callers : List Frame) (f : Option Frame) → Costs (returned_in s callers f)
of_returned_in s callers None = one
of_returned_in s callers (Some f) = one

of_returned : (p : Program) (value : Option ℕ) (callers : List Frame) (s : State) → Costs (returned p value callers s)
of_returned p value [] s = one
of_returned p value (c ∷ callers) s = of_returned_in s callers _

of_ret : (p : Program) (value : Option (Ty × Operand)) (s : State) → Costs (row_ret p value s)
unfolding row_ret
of_ret p None s = of_returned p None s.callers s
of_ret p (Some x) s = with_given _ _ (λ n. of_returned p (Some n) s.callers s)

-- ---- externals

of_room : (into : Option ℕ) (ns : List ℕ) (s : State) → Costs (row_room into ns s)
of_room into [] s = one
of_room into (n ∷ []) s = one
of_room into (n ∷ size ∷ []) s = one
of_room into (n ∷ size ∷ align ∷ []) s = of_allocated into _ s
of_room into (n ∷ size ∷ align ∷ b ∷ more) s = one

of_map : (p : Program) (into : Option ℕ) (ns : List ℕ) (s : State) → Costs (row_map p into ns s)
of_map p into [] s = one
of_map p into (at ∷ []) s = of_arrived s _
of_map p into (at ∷ b ∷ more) s = one

of_done : (p : Program) (into : Option ℕ) (e : External) (ns : List ℕ) (s : State) → Costs (row_effect into (ext.do_external p.regions e ns (record { byte = s.byte; heap = s.heap; input = s.input })) s)
of_done p into e ns s = costs into (ext.do_external p.regions e ns (record { byte = s.byte; heap = s.heap; input = s.input })) s (external_paid p.regions e ns (record { byte = s.byte; heap = s.heap; input = s.input }))

of_external : (p : Program) (into : Option ℕ) (e : External) (ns : List ℕ) (s : State) → Costs (row_external p into e ns s)
of_external p into external.Alloca ns s = of_room into ns s
of_external p into external.Map ns s = of_map p into ns s
of_external p into external.GetChar ns s = of_done p into external.GetChar ns s
of_external p into external.PutChar ns s = of_done p into external.PutChar ns s
of_external p into external.Puts ns s = of_done p into external.Puts ns s
of_external p into external.Malloc ns s = of_done p into external.Malloc ns s
of_external p into external.Calloc ns s = of_done p into external.Calloc ns s
of_external p into external.Free ns s = of_done p into external.Free ns s
of_external p into external.Exit ns s = of_done p into external.Exit ns s
of_external p into external.Abort ns s = of_done p into external.Abort ns s
of_external p into external.Move ns s = of_done p into external.Move ns s
of_external p into external.Set ns s = of_done p into external.Set ns s
of_external p into (external.Swap n) ns s = of_done p into (external.Swap n) ns s
of_external p into (external.UMin n) ns s = of_done p into (external.UMin n) ns s
of_external p into (external.UMax n) ns s = of_done p into (external.UMax n) ns s
of_external p into (external.SMin n) ns s = of_done p into (external.SMin n) ns s
of_external p into (external.SMax n) ns s = of_done p into (external.SMax n) ns s
of_external p into external.Hint ns s = of_done p into external.Hint ns s

-- ---- calls

of_called : (k : ℕ) (ns : List ℕ) (sp : ℕ) (s : State) (f : Option Frame) → Costs (called k ns sp s f)
of_called k ns sp s None = one
of_called k ns sp s (Some f) = one

of_entered : (k : ℕ) (g : Function) (ns : List ℕ) (s : State) → Costs (entered k g ns s)
of_entered k g ns s = elim (cases_Bool (nat_lt s.sp (stack_start + call_room))) [
  | inl less ↦ rw less one
  | inr more ↦ rw more (of_called k ns (s.sp - call_room) s (entry_frame k g ns s.sp))
]

of_invoked : (p : Program) (into : Option ℕ) (k : ℕ) (ns : List ℕ) (s : State) (g : Function) → Costs (invoked p into k ns s g)
of_invoked p into k ns s g = elim (cases_Bool (is_declared g)) [
  | inl is ↦ subst (λ (b : Bool). Costs (if b then given stuck (external_of p.role g) (λ e. row_external p into e ns s) else entered k g ns s)) (sym is)
      (with_given (external_of p.role g) (λ e. row_external p into e ns s) (λ e. of_external p into e ns s))
  | inr other ↦ subst (λ (b : Bool). Costs (if b then given stuck (external_of p.role g) (λ e. row_external p into e ns s) else entered k g ns s)) (sym other) (of_entered k g ns s)
]

of_calling : (p : Program) (into : Option ℕ) (v : Valued) (args : List (Ty × Operand)) (s : State) → Costs (calling p into v args s)
of_calling p into (Number k) args s =
    with_given (arguments_of p s.frame.registers args) (λ ns. given stuck (function_at p k) (invoked p into k ns s))
    (λ ns. with_given (function_at p k) (invoked p into k ns s) (λ g. of_invoked p into k ns s g))
of_calling p into (Traps t) args s = one
of_calling p into NoValue args s = one

of_call : (p : Program) (into : Option ℕ) (t : Ty) (callee : Operand) (args : List (Ty × Operand)) (s : State) → Costs (row_call p into t callee args s)
unfolding row_call
of_call p into t callee args s = of_calling p into (callee_value p s.frame.registers t callee args) args s

-- ---- all of them

pub of_op : (p : Program) (into : Option ℕ) (o : Op) (s : State) → Costs (row_of_op p into o s)
of_op p into (op.Binary o w a b) s = of_computed into _ s
of_op p into (op.Compare o t a b) s = of_computed into _ s
of_op p into (op.Cast o t a u) s = of_computed into _ s
of_op p into (op.Freeze t a) s = of_computed into _ s
of_op p into (op.Select c t a b) s = of_computed into _ s
of_op p into (op.Phi t pairs) s = one
of_op p into (op.Alloca t count align) s = of_alloca p into t count align s
of_op p into (op.Load volatile t a) s = of_load p into t a s
of_op p into (op.Store volatile t v a) s = of_store p t v a s
of_op p into (op.Gep t a indices) s = of_computed into _ s
of_op p into (op.Call t callee args) s = of_call p into t callee args s
of_op p into (op.Br l) s = of_br p l s
of_op p into (op.CondBr c l k) s = of_cond_br p c l k s
of_op p into (op.Switch w a l cases) s = of_switch p w a l cases s
of_op p into (op.Ret value) s = of_ret p value s
of_op p into op.Unreachable s = one

-- ---- within a budget

pub not_zero : (n : ℕ) → 1 ≤ n → (n == 0) ≡ false
not_zero n some = elim (cases_Bool (n == 0)) [
  | inl is ↦ (let e : n ≡ 0 = eqb-true n 0 is in absurd (omega (arith, e)))
  | inr other ↦ other
]

-- where nothing is left
pub limited_none : (r : Row) → Costs r → limited 0 r ≡ unfinished []
limited_none r some = (let e = not_zero r.cost some in rw e refl)

-- where something is left
pub limited_some : (left : ℕ) (r : Row) → 1 ≤ left → Costs r → limited left r ≡ affordable left r
limited_some left r something some = (let e = not_zero r.cost some in let f = not_zero left something in rw (e, f) refl)

-- the next instruction, which is not marked
module _ (p : Program) (s : State) where
  pub row_none : instr_at p s.frame ≡ None → row p s ≡ stuck
  unfolding row
  row_none none = rw none refl

  pub row_some : (i : Instr) → instr_at p s.frame ≡ Some i → i.inserted ≡ false → row p s ≡ row_of_op p i.result i.op s
  unfolding row
  row_some i is plain = rw (is, plain) refl

  row_at : (o : Option Instr) → instr_at p s.frame ≡ o → ((i : Instr) → instr_at p s.frame ≡ Some i → i.inserted ≡ false) → Costs (row p s)
  row_at None is marks = (let e = row_none is in rw e one)
  row_at (Some i) is marks = (let e = row_some i is (marks i is) in rw e (of_op p i.result i.op s))

  pub row_costs : ((i : Instr) → instr_at p s.frame ≡ Some i → i.inserted ≡ false) → Costs (row p s)
  row_costs marks = row_at (instr_at p s.frame) refl marks
