-- Which frames a row leaves: a call adds one, a return takes one away, and all else stays in its frame.
use Rattle.std.proofs.Common.{◌≡◌, ℕ, ◌+◌, ◌-◌, ◌*◌, nat_lt, ◌==◌, inl, inr, ◌⊎◌, Bool, true, false, if◌then◌else◌, List, [], ◌∷◌, Option, Some, None, refl, sym, ap, subst, ◌∙◌}
use Rattle.std.proofs.lemmas.Bool.{cases_Bool}
use Rattle.no_ir.specs.declared.ending.Trap.{Trap}
use Rattle.no_ir.specs.declared.ending.Trap.TheVariants.{StackOverflow}
use Rattle.no_ir.specs.declared.function.Block.{Block}
use Rattle.no_ir.specs.declared.function.Function.{Function}
use Rattle.no_ir.specs.declared.instruction.Instr.{Instr}
use Rattle.no_ir.specs.declared.instruction.Op.{Op}
use Rattle.no_ir.specs.declared.instruction.Op.TheVariants as op
use Rattle.no_ir.specs.declared.instruction.Operand.{Operand}
use Rattle.no_ir.specs.declared.types.Ty.{Ty}
use Rattle.no_layout.specs.Memory.{refusal, stack_start}
use Rattle.no_module.specs.Externals.{external_of}
use Rattle.no_module.specs.Functions.{is_declared}
use Rattle.no_module.specs.declared.external.External.{External}
use Rattle.no_module.specs.declared.external.External.TheVariants as external
use Rattle.no_semantics.specs.Access.{allocated, fetched, row_alloca, row_load, row_store, stored}
use Rattle.no_semantics.specs.Acting.{row, row_of_instr, row_of_op}
use Rattle.no_semantics.specs.Calls.{arguments_of, call_room, called, callee_value, calling, effect_next, entered, entry_frame, invoked, outcome_row, passed, returned, returned_in, row_call, row_effect, row_external, row_map, row_ret, row_return, row_room, unassigned, world_of}
use Rattle.no_semantics.specs.Control.{Move, arrived, at_block, block_number, branched, case_label, from_block, go, landed, phi_moves, row_br, row_cond_br, row_switch}
use Rattle.no_semantics.specs.Externals as ext
use Rattle.no_semantics.specs.Registers.{Registers, argument_of, given, operand, operand_of, pointer_of}
use Rattle.no_semantics.specs.Results.{Valued, Number, Traps, NoValue, alloca_value, bytes_of_type, load_value}
use Rattle.no_semantics.specs.Rows.{Row, Next, Calling, Goes, Leaves, Ends, Stuck, charged, computed, stuck, trapping}
use Rattle.no_semantics.specs.States.{Frame, State, answered, function_at, instr_at}
use Rattle.no_semantics.specs.Values.{Program}

-- the frames behind a row that calls, that stays, and that returns
pub record Calls' (s : State) (call : Option Calling) (t : State) : Type 0 where
  pub which : Calling
  pub is : call ≡ Some which
  pub function : t.frame.function ≡ which.function
  pub callers : t.callers ≡ s.frame ∷ s.callers

pub record Stays' (s : State) (call : Option Calling) (t : State) : Type 0 where
  pub is : call ≡ None
  pub function : t.frame.function ≡ s.frame.function
  pub callers : t.callers ≡ s.callers

pub record Returns' (s : State) (call : Option Calling) (t : State) : Type 0 where
  pub is : call ≡ None
  pub to : Frame
  pub callers : s.callers ≡ to ∷ t.callers
  pub function : t.frame.function ≡ to.function

abbrev pub Frames : State → Option Calling → State → Type 0
Frames s call t = Calls' s call t ⊎ (Stays' s call t ⊎ Returns' s call t)

abbrev FramesOf : State → Next → Type 0
FramesOf s (Goes bytes call t) = Frames s call t
FramesOf s _ = Unit {0}

abbrev Fr : State → Row → Type 0
Fr s r = FramesOf s r.next

stays : (s : State) (t : State) → t.frame.function ≡ s.frame.function → t.callers ≡ s.callers → Frames s None t
stays s t f c = inr (inl (record { is = refl; function = f; callers = c }))

-- a frame of the same function, where there is one
abbrev Same : ℕ → Option Frame → Type 0
Same k None = Unit {0}
Same k (Some f) = f.function ≡ k

computed_fr : (into : Option ℕ) (v : Valued) (s : State) → Fr s (computed into v s)
computed_fr into (Number n) s = stays s _ refl refl
computed_fr into (Traps t) s = tt
computed_fr into NoValue s = tt

allocated_fr : (into : Option ℕ) (v : Valued) (s : State) → Fr s (allocated into v s)
allocated_fr into (Number n) s = stays s _ refl refl
allocated_fr into (Traps t) s = tt
allocated_fr into NoValue s = tt

fetched_fr : (into : Option ℕ) (v : Valued) (at size : ℕ) (s : State) → Fr s (fetched into v at size s)
fetched_fr into (Number n) at size s = stays s _ refl refl
fetched_fr into (Traps t) at size s = tt
fetched_fr into NoValue at size s = tt

stored_fr : (p : Program) (at size n : ℕ) (s : State) (o : Option Trap) → Fr s (stored p at size n s o)
stored_fr p at size n s None = stays s _ refl refl
stored_fr p at size n s (Some t) = tt

arrived_fr : (s : State) (o : Option Frame) → Same s.frame.function o → Fr s (arrived s o)
arrived_fr s None same = tt
arrived_fr s (Some f) same = stays s _ same refl

given_fr : {A : Type 0} (s : State) (o : Option A) (f : A → Row) → ((x : A) → Fr s (f x)) → Fr s (given stuck o f)
given_fr s None f h = tt
given_fr s (Some x) f h = h x

given_same : {A : Type 0} (k : ℕ) (o : Option A) (f : A → Option Frame) → ((x : A) → Same k (f x)) → Same k (given None o f)
given_same k None f h = tt
given_same k (Some x) f h = h x

landed_same : (p : Program) (f : Frame) (from b : ℕ) (to : Block) → Same f.function (landed p f from b to)
landed_same p f from b to = given_same f.function (phi_moves p f.registers from to.instrs) _ (λ moves. refl)

at_block_same : (p : Program) (f : Frame) (from : ℕ) (g : Function) (o : Option ℕ) → Same f.function (at_block p f from g o)
at_block_same p f from g None = tt
at_block_same p f from g (Some b) = given_same f.function (Rattle.std.proofs.Common.slice_get g.blocks b) (landed p f from b) (landed_same p f from b)

from_block_same : (p : Program) (f : Frame) (g : Function) (l : ℕ) (o : Option Block) → Same f.function (from_block p f g l o)
from_block_same p f g l None = tt
from_block_same p f g l (Some from) = at_block_same p f from.label g (block_number g l)

branched_same : (p : Program) (f : Frame) (l : ℕ) → Same f.function (branched p f l)
unfolding branched
branched_same p f l = given_same f.function (function_at p f.function) _ (λ g. from_block_same p f g l (Rattle.std.proofs.Common.slice_get g.blocks f.block))

go_fr : (p : Program) (s : State) (l : ℕ) → Fr s (go p s l)
go_fr p s l = arrived_fr s (branched p s.frame l) (branched_same p s.frame l)

answered_same : (into value : Option ℕ) (f : Frame) → Same f.function (answered into value f)
answered_same None value f = refl
answered_same (Some r) None f = refl
answered_same (Some r) (Some n) f = refl

alloca_fr : (p : Program) (into : Option ℕ) (t : Ty) (count : Option (ℕ × Operand)) (align : Option ℕ) (s : State) → Fr s (row_alloca p into t count align s)
unfolding row_alloca
alloca_fr p into t count align s = allocated_fr into (alloca_value p s.frame.registers s.sp t count align) s

load_fr : (p : Program) (into : Option ℕ) (t : Ty) (a : Operand) (s : State) → Fr s (row_load p into t a s)
unfolding row_load
load_fr p into t a s = given_fr s (pointer_of p s.frame.registers a) _ (λ at. fetched_fr into (load_value p s.frame.registers s.byte t a) at (bytes_of_type p t) s)

store_fr : (p : Program) (t : Ty) (v a : Operand) (s : State) → Fr s (row_store p t v a s)
unfolding row_store
store_fr p t v a s = given_fr s (pointer_of p s.frame.registers a) _ (λ at. given_fr s (operand_of p s.frame.registers t v) _ (λ n. stored_fr p at (bytes_of_type p t) n s (refusal p.regions true at (bytes_of_type p t))))

br_fr : (p : Program) (l : ℕ) (s : State) → Fr s (row_br p l s)
unfolding row_br
br_fr p l s = go_fr p s l

cond_fr : (p : Program) (c : Operand) (l k : ℕ) (s : State) → Fr s (row_cond_br p c l k s)
unfolding row_cond_br
cond_fr p c l k s = given_fr s (operand p 1 s.frame.registers c) _ (λ x. go_fr p s (if x == 1 then l else k))

switch_fr : (p : Program) (w : ℕ) (a : Operand) (l : ℕ) (cases : List (ℕ × ℕ)) (s : State) → Fr s (row_switch p w a l cases s)
unfolding row_switch
switch_fr p w a l cases s = given_fr s (operand p w s.frame.registers a) _ (λ x. go_fr p s (case_label x l cases))

-- ---- returns

returned_in_fr : (s : State) (c : Frame) (callers : List Frame) (o : Option Frame) → s.callers ≡ c ∷ callers → Same c.function o → Fr s (returned_in s callers o)
returned_in_fr s c callers None is same = tt
returned_in_fr s c callers (Some f) is same = inr (inr (record { is = refl; to = c; callers = is; function = same }))

returned_fr : (p : Program) (value : Option ℕ) (s : State) (callers : List Frame) → s.callers ≡ callers → Fr s (returned p value callers s)
returned_fr p value s [] is = tt
returned_fr p value s (c ∷ callers) is = returned_in_fr s c callers (given None (instr_at p c) (λ i. answered i.result value c)) is (given_same c.function (instr_at p c) _ (λ i. answered_same i.result value c))

ret_fr : (p : Program) (value : Option (Ty × Operand)) (s : State) → Fr s (row_ret p value s)
unfolding row_ret
ret_fr p None s = returned_fr p None s s.callers refl
ret_fr p (Some x) s = given_fr s (argument_of p s.frame.registers x) _ (λ n. returned_fr p (Some n) s s.callers refl)

-- ---- calls

called_fr : (k : ℕ) (ns : List ℕ) (sp : ℕ) (s : State) (o : Option Frame) → Same k o → Fr s (called k ns sp s o)
called_fr k ns sp s None same = tt
called_fr k ns sp s (Some f) same = inl (record { which = record { function = k; arguments = ns }; is = refl; function = same; callers = refl })

entered_fr : (k : ℕ) (g : Function) (ns : List ℕ) (s : State) → Fr s (entered k g ns s)
entered_fr k g ns s = of (nat_lt s.sp (stack_start + call_room)) (called_fr k ns (s.sp - call_room) s (entry_frame k g ns s.sp) (given_same k (passed g.params ns (unassigned g)) _ (λ registers. refl)))
  where
    of : (b : Bool) → Fr s (called k ns (s.sp - call_room) s (entry_frame k g ns s.sp)) → Fr s (if b then trapping StackOverflow else called k ns (s.sp - call_room) s (entry_frame k g ns s.sp))
    of true h = tt
    of false h = h

effect_fr : (e : ext.Effect) (s : State) (o : Option Frame) → Same s.frame.function o → FramesOf s (effect_next e s o)
effect_fr e s None same = tt
effect_fr e s (Some f) same = stays s _ same refl

outcome_fr : (into : Option ℕ) (o : ext.Outcome) (e : ext.Effect) (s : State) → Fr s (outcome_row into o e s)
outcome_fr into (ext.Gives v cost) e s = effect_fr e s (answered into (Some v) s.frame) (answered_same into (Some v) s.frame)
outcome_fr into (ext.Does cost) e s = effect_fr e s (answered into None s.frame) (answered_same into None s.frame)
outcome_fr into (ext.Exits c) e s = tt
outcome_fr into (ext.Traps t) e s = tt
outcome_fr into ext.Over e s = tt
outcome_fr into ext.Stuck e s = tt

room_fr : (into : Option ℕ) (ns : List ℕ) (s : State) → Fr s (row_room into ns s)
room_fr into [] s = tt
room_fr into (n ∷ []) s = tt
room_fr into (n ∷ size ∷ []) s = tt
room_fr into (n ∷ size ∷ align ∷ []) s = allocated_fr into _ s
room_fr into (n ∷ size ∷ align ∷ a ∷ ns) s = tt

map_fr : (p : Program) (into : Option ℕ) (ns : List ℕ) (s : State) → Fr s (row_map p into ns s)
map_fr p into [] s = tt
map_fr p into (at ∷ []) s = arrived_fr s (answered into _ s.frame) (answered_same into _ s.frame)
map_fr p into (at ∷ a ∷ ns) s = tt

external_fr : (p : Program) (into : Option ℕ) (which : External) (ns : List ℕ) (s : State) → Fr s (row_external p into which ns s)
external_fr p into external.Alloca ns s = room_fr into ns s
external_fr p into external.Map ns s = map_fr p into ns s
external_fr p into which ns s = outcome_fr into (ext.do_external p.regions which ns (world_of s)).outcome (ext.do_external p.regions which ns (world_of s)) s

invoked_fr : (p : Program) (into : Option ℕ) (k : ℕ) (ns : List ℕ) (s : State) (g : Function) → Fr s (invoked p into k ns s g)
invoked_fr p into k ns s g = of (is_declared g) (given_fr s (external_of p.role g) _ (λ e. external_fr p into e ns s)) (entered_fr k g ns s)
  where
    of : (b : Bool) → Fr s (given stuck (external_of p.role g) (λ e. row_external p into e ns s)) → Fr s (entered k g ns s) → Fr s (if b then given stuck (external_of p.role g) (λ e. row_external p into e ns s) else entered k g ns s)
    of true h i = h
    of false h i = i

calling_fr : (p : Program) (into : Option ℕ) (v : Valued) (args : List (Ty × Operand)) (s : State) → Fr s (calling p into v args s)
calling_fr p into (Number k) args s = given_fr s (arguments_of p s.frame.registers args) _ (λ ns. given_fr s (function_at p k) _ (invoked_fr p into k ns s))
calling_fr p into (Traps t) args s = tt
calling_fr p into NoValue args s = tt

call_fr : (p : Program) (into : Option ℕ) (t : Ty) (callee : Operand) (args : List (Ty × Operand)) (s : State) → Fr s (row_call p into t callee args s)
unfolding row_call
call_fr p into t callee args s = calling_fr p into (callee_value p s.frame.registers t callee args) args s

-- ---- all of them

op_fr : (p : Program) (into : Option ℕ) (q : Op) (s : State) → Fr s (row_of_op p into q s)
op_fr p into (op.Binary o w a b) s = computed_fr into _ s
op_fr p into (op.Compare o t a b) s = computed_fr into _ s
op_fr p into (op.Cast o t a u) s = computed_fr into _ s
op_fr p into (op.Freeze t a) s = computed_fr into _ s
op_fr p into (op.Select c t a b) s = computed_fr into _ s
op_fr p into (op.Phi t pairs) s = tt
op_fr p into (op.Alloca t count align) s = alloca_fr p into t count align s
op_fr p into (op.Load volatile t a) s = load_fr p into t a s
op_fr p into (op.Store volatile t v a) s = store_fr p t v a s
op_fr p into (op.Gep t a indices) s = computed_fr into _ s
op_fr p into (op.Call t callee args) s = call_fr p into t callee args s
op_fr p into (op.Br l) s = br_fr p l s
op_fr p into (op.CondBr c l k) s = cond_fr p c l k s
op_fr p into (op.Switch w a l cases) s = switch_fr p w a l cases s
op_fr p into (op.Ret value) s = ret_fr p value s
op_fr p into op.Unreachable s = tt

charged_fr : (b : Bool) (r : Row) (s : State) → Fr s r → Fr s (charged b r)
charged_fr true r s h = h
charged_fr false r s h = h

row_fr : (p : Program) (s : State) → Fr s (row p s)
unfolding row
row_fr p s = given_fr s (instr_at p s.frame) (row_of_instr p s) (λ i. charged_fr i.inserted (row_of_op p i.result i.op s) s (op_fr p i.result i.op s))

pub frames : (p : Program) (s : State) (bytes : List ℕ) (call : Option Calling) (t : State) → (row p s).next ≡ Goes bytes call t → Frames s call t
frames p s bytes call t e = subst (FramesOf s) e (row_fr p s)
