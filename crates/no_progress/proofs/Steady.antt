-- What every step keeps: one that goes on costs something, and the outermost call stays one of the same function.
use Rattle.std.proofs.Common.{◌≡◌, ℕ, ◌+◌, ◌*◌, ◌-◌, ◌<◌, ◌≤◌, ◌==◌, nat_lt, Bool, true, false, Option, Some, None, if◌then◌else◌, List, [], ◌∷◌, slice_get, refl, sym, ap, ◌∙◌, subst, arith, eqb-true, ltb-false}
use Rattle.no_ir.specs.declared.types.Ty.{Ty}
use Rattle.no_ir.specs.declared.ending.Trap.{Trap}
use Rattle.no_ir.specs.declared.instruction.Operand.{Operand}
use Rattle.no_ir.specs.declared.instruction.Op.{Op}
use Rattle.no_ir.specs.declared.instruction.Op.TheVariants as op
use Rattle.no_ir.specs.declared.instruction.Instr.{Instr}
use Rattle.no_ir.specs.declared.function.Block.{Block}
use Rattle.no_ir.specs.declared.function.Function.{Function}
use Rattle.no_layout.specs.Memory.{stack_start, refusal}
use Rattle.no_module.specs.declared.external.External.{External}
use Rattle.no_module.specs.declared.external.External.TheVariants as external
use Rattle.no_module.specs.Externals.{external_of}
use Rattle.no_module.specs.Functions.{is_declared}
use Rattle.no_semantics.specs.Access.{row_alloca, allocated, fetched, row_load, stored, row_store}
use Rattle.no_semantics.specs.Acting.{row_of_op, row_of_instr, row, step}
use Rattle.no_semantics.specs.Calls.{arguments_of, call_room, callee_value, entry_frame, called, entered, world_of, effect_row, outcome_row, addressed_from, mapped, row_map, row_room, row_external, invoked, calling, row_call, returned_in, returned, row_ret}
use Rattle.no_semantics.specs.Control.{phi_moves, landed, at_block, from_block, branched, arrived, go, case_label, row_br, row_cond_br, row_switch}
use Rattle.no_semantics.specs.Externals.{Effect, Outcome, do_external}
use Rattle.no_semantics.specs.Externals as outcome
use Rattle.no_semantics.specs.Registers.{given, operand, operand_of, pointer_of, argument_of}
use Rattle.no_semantics.specs.Results.{Valued, Number, Traps, NoValue, binary_value, compare_value, cast_value, freeze_value, select_value, gep_value, alloca_value, load_value, bytes_of_type, lowered, stack_place}
use Rattle.no_semantics.specs.Rows.{Row, Next, Goes, Leaves, Ends, Stuck, stuck, computed, charged, unfinished, limited}
use Rattle.no_semantics.specs.States.{Frame, State, function_at, instr_at, answered}
use Rattle.no_semantics.specs.Values.{Program}
use Rattle.no_progress.proofs.Costs.{Costs, external_costs}

-- the function of the outermost call
abbrev pub outer_of : Frame → List Frame → ℕ
outer_of f [] = f.function
outer_of f (c ∷ callers) = outer_of c callers

abbrev pub outer : State → ℕ
outer s = outer_of s.frame s.callers

outer_same : (f h : Frame) (callers : List Frame) → f.function ≡ h.function → outer_of f callers ≡ outer_of h callers
outer_same f h [] e = e
outer_same f h (c ∷ callers) e = refl

-- what comes next of a state: where it goes on, at a cost, the outermost function is the same, and a return is as told
abbrev pub Keeps : State → (Option ℕ → Type 0) → ℕ → Next → Type 0
Keeps s leaves cost (Goes bytes call t) = (0 < cost) × (outer t ≡ outer s)
Keeps s leaves cost (Leaves value) = leaves value
Keeps s leaves cost (Ends end) = Unit {0}
Keeps s leaves cost Stuck = Unit {0}

abbrev pub Steady : State → (Option ℕ → Type 0) → Row → Type 0
Steady s leaves r = Keeps s leaves r.cost r.next

-- an instruction from whose state the run's first frame returns: a return, and with a number where it states one
abbrev pub LeavesBy : State → Op → Option ℕ → Type 0
LeavesBy s (op.Ret None) value = s.callers ≡ []
LeavesBy s (op.Ret (Some x)) value = (s.callers ≡ []) × (n : ℕ) × (value ≡ Some n)
LeavesBy s _ value = ⊥

-- a frame of a function, where there is one
abbrev OfFunction : ℕ → Option Frame → Type 0
OfFunction k None = Unit {0}
OfFunction k (Some f) = f.function ≡ k

given_same : {A : Type 0} (k : ℕ) (o : Option A) (make : A → Option Frame) → ((x : A) → OfFunction k (make x)) → OfFunction k (given None o make)
given_same k None make h = tt
given_same k (Some x) make h = h x

answered_same : (into value : Option ℕ) (f : Frame) → OfFunction f.function (answered into value f)
answered_same None value f = refl
answered_same (Some r) (Some n) f = refl
answered_same (Some r) None f = refl

module _ (s : State) (leaves : Option ℕ → Type 0) where
  given_steady : {A : Type 0} (o : Option A) (make : A → Row) → ((x : A) → Steady s leaves (make x)) → Steady s leaves (given stuck o make)
  given_steady None make h = tt
  given_steady (Some x) make h = h x

  if_steady : (b : Bool) (r q : Row) → Steady s leaves r → Steady s leaves q → Steady s leaves (if b then r else q)
  if_steady true r q h k = h
  if_steady false r q h k = k

  computed_steady : (into : Option ℕ) (v : Valued) → Steady s leaves (computed into v s)
  computed_steady into (Number n) = (omega arith, outer_same _ s.frame s.callers refl)
  computed_steady into (Traps t) = tt
  computed_steady into NoValue = tt

  allocated_steady : (into : Option ℕ) (v : Valued) → Steady s leaves (allocated into v s)
  allocated_steady into (Number n) = (omega arith, outer_same _ s.frame s.callers refl)
  allocated_steady into (Traps t) = tt
  allocated_steady into NoValue = tt

  fetched_steady : (into : Option ℕ) (v : Valued) (at size : ℕ) → Steady s leaves (fetched into v at size s)
  fetched_steady into (Number n) at size = (omega arith, outer_same _ s.frame s.callers refl)
  fetched_steady into (Traps t) at size = tt
  fetched_steady into NoValue at size = tt

  stored_steady : (p : Program) (at size n : ℕ) (o : Option Trap) → Steady s leaves (stored p at size n s o)
  stored_steady p at size n (Some t) = tt
  stored_steady p at size n None = (omega arith, outer_same _ s.frame s.callers refl)

  -- ---- frames of the same function

  arrived_steady : (o : Option Frame) → OfFunction s.frame.function o → Steady s leaves (arrived s o)
  arrived_steady None e = tt
  arrived_steady (Some f) e = (omega arith, outer_same f s.frame s.callers e)

  at_block_same : (p : Program) (from : ℕ) (g : Function) (o : Option ℕ) → OfFunction s.frame.function (at_block p s.frame from g o)
  at_block_same p from g None = tt
  at_block_same p from g (Some b) = given_same s.frame.function (slice_get g.blocks b) (landed p s.frame from b) (λ to. given_same s.frame.function (phi_moves p s.frame.registers from to.instrs) _ (λ moves. refl))

  from_block_same : (p : Program) (g : Function) (l : ℕ) (o : Option Block) → OfFunction s.frame.function (from_block p s.frame g l o)
  from_block_same p g l None = tt
  from_block_same p g l (Some from) = at_block_same p from.label g _

  go_steady : (p : Program) (l : ℕ) → Steady s leaves (go p s l)
  unfolding branched
  go_steady p l = arrived_steady (branched p s.frame l) (given_same s.frame.function (function_at p s.frame.function) _ (λ g. from_block_same p g l (slice_get g.blocks s.frame.block)))

  -- ---- calls

  called_steady : (k : ℕ) (ns : List ℕ) (sp : ℕ) (o : Option Frame) → Steady s leaves (called k ns sp s o)
  called_steady k ns sp None = tt
  called_steady k ns sp (Some f) = (omega arith, refl)

  entered_steady : (k : ℕ) (g : Function) (ns : List ℕ) → Steady s leaves (entered k g ns s)
  entered_steady k g ns = if_steady (nat_lt s.sp (stack_start + call_room)) _ _ tt (called_steady k ns (s.sp - call_room) (entry_frame k g ns s.sp))

  effect_steady : (cost : ℕ) (e : Effect) (o : Option Frame) → 0 < cost → OfFunction s.frame.function o → Steady s leaves (effect_row cost e s o)
  effect_steady cost e None some same = tt
  effect_steady cost e (Some f) some same = (some, outer_same f s.frame s.callers same)

  outcome_steady : (into : Option ℕ) (o : Outcome) (e : Effect) → Costs o → Steady s leaves (outcome_row into o e s)
  outcome_steady into (outcome.Gives v cost) e some = effect_steady cost e (answered into (Some v) s.frame) some (answered_same into (Some v) s.frame)
  outcome_steady into (outcome.Does cost) e some = effect_steady cost e (answered into None s.frame) some (answered_same into None s.frame)
  outcome_steady into (outcome.Exits c) e some = tt
  outcome_steady into (outcome.Traps t) e some = tt
  outcome_steady into outcome.Over e some = tt
  outcome_steady into outcome.Stuck e some = tt

  room_steady : (into : Option ℕ) (ns : List ℕ) → Steady s leaves (row_room into ns s)
  room_steady into (n ∷ size ∷ align ∷ []) = allocated_steady into (stack_place (lowered s.sp (n * size) align))
  room_steady into _ = tt

  map_steady : (p : Program) (into : Option ℕ) (ns : List ℕ) → Steady s leaves (row_map p into ns s)
  map_steady p into (at ∷ []) = arrived_steady (answered into (Some (mapped (addressed_from 0 p.«module».functions at))) s.frame) (answered_same into (Some (mapped (addressed_from 0 p.«module».functions at))) s.frame)
  map_steady p into _ = tt

  external_steady : (p : Program) (into : Option ℕ) (e : External) (ns : List ℕ) → Steady s leaves (row_external p into e ns s)
  external_steady p into external.Alloca ns = room_steady into ns
  external_steady p into external.Map ns = map_steady p into ns
  external_steady p into e ns = outcome_steady into (do_external p.regions e ns (world_of s)).outcome (do_external p.regions e ns (world_of s)) (external_costs p.regions e ns (world_of s))

  invoked_steady : (p : Program) (into : Option ℕ) (k : ℕ) (ns : List ℕ) (g : Function) → Steady s leaves (invoked p into k ns s g)
  invoked_steady p into k ns g = if_steady (is_declared g) _ _ (given_steady (external_of p.role g) _ (λ e. external_steady p into e ns)) (entered_steady k g ns)

  calling_steady : (p : Program) (into : Option ℕ) (v : Valued) (args : List (Ty × Operand)) → Steady s leaves (calling p into v args s)
  calling_steady p into (Number k) args = given_steady (arguments_of p s.frame.registers args) _ (λ ns. given_steady (function_at p k) _ (λ g. invoked_steady p into k ns g))
  calling_steady p into (Traps t) args = tt
  calling_steady p into NoValue args = tt

  returned_steady : (p : Program) (value : Option ℕ) (callers : List Frame) → s.callers ≡ callers → (callers ≡ [] → leaves value) → Steady s leaves (returned p value callers s)
  returned_steady p value [] e h = h refl
  returned_steady p value (c ∷ callers) e h = back (given None (instr_at p c) (λ i. answered i.result value c)) (given_same c.function (instr_at p c) _ (λ i. answered_same i.result value c))
    where
      back : (o : Option Frame) → OfFunction c.function o → Steady s leaves (returned_in s callers o)
      back None same = tt
      back (Some f) same = (omega arith, outer_same f c callers same ∙ sym (ap (outer_of s.frame) e))

-- ---- instructions

module _ (p : Program) (s : State) where
  ret_steady : (value : Option (Ty × Operand)) → Steady s (LeavesBy s (op.Ret value)) (row_ret p value s)
  unfolding row_ret
  ret_steady None = returned_steady s (LeavesBy s (op.Ret None)) p None s.callers refl (λ none. none)
  ret_steady (Some x) = given_steady s (LeavesBy s (op.Ret (Some x))) (argument_of p s.frame.registers x) _
      (λ n. returned_steady s (LeavesBy s (op.Ret (Some x))) p (Some n) s.callers refl (λ none. (none, n, refl)))

  acts_steady : (into : Option ℕ) (o : Op) → Steady s (LeavesBy s o) (row_of_op p into o s)
  unfolding row_alloca row_load row_store row_call row_br row_cond_br row_switch
  acts_steady into (op.Binary o w a b) = computed_steady s (λ v. ⊥) into (binary_value p s.frame.registers o w a b)
  acts_steady into (op.Compare o t a b) = computed_steady s (λ v. ⊥) into (compare_value p s.frame.registers o t a b)
  acts_steady into (op.Cast o t a u) = computed_steady s (λ v. ⊥) into (cast_value p s.frame.registers o t a u)
  acts_steady into (op.Freeze t a) = computed_steady s (λ v. ⊥) into (freeze_value p s.frame.registers t a)
  acts_steady into (op.Select c t a b) = computed_steady s (λ v. ⊥) into (select_value p s.frame.registers c t a b)
  acts_steady into (op.Phi t pairs) = tt
  acts_steady into (op.Alloca t count align) = allocated_steady s (λ v. ⊥) into (alloca_value p s.frame.registers s.sp t count align)
  acts_steady into (op.Load volatile t a) = given_steady s (λ v. ⊥) (pointer_of p s.frame.registers a) _ (λ at. fetched_steady s (λ v. ⊥) into (load_value p s.frame.registers s.byte t a) at (bytes_of_type p t))
  acts_steady into (op.Store volatile t v a) = given_steady s (λ v. ⊥) (pointer_of p s.frame.registers a) _
      (λ at. given_steady s (λ v. ⊥) (operand_of p s.frame.registers t v) _ (λ n. stored_steady s (λ v. ⊥) p at (bytes_of_type p t) n (refusal p.regions true at (bytes_of_type p t))))
  acts_steady into (op.Gep t a indices) = computed_steady s (λ v. ⊥) into (gep_value p s.frame.registers t a indices)
  acts_steady into (op.Call t callee args) = calling_steady s (λ v. ⊥) p into (callee_value p s.frame.registers t callee args) args
  acts_steady into (op.Br l) = go_steady s (λ v. ⊥) p l
  acts_steady into (op.CondBr c l k) = given_steady s (λ v. ⊥) (operand p 1 s.frame.registers c) _ (λ x. go_steady s (λ v. ⊥) p (if x == 1 then l else k))
  acts_steady into (op.Switch w a l cs) = given_steady s (λ v. ⊥) (operand p w s.frame.registers a) _ (λ x. go_steady s (λ v. ⊥) p (case_label x l cs))
  acts_steady into (op.Ret value) = ret_steady value
  acts_steady into op.Unreachable = tt

  -- the row of an instruction that the partition did not make
  row_steady : (i : Instr) → instr_at p s.frame ≡ Some i → i.inserted ≡ false → Steady s (LeavesBy s i.op) (row p s)
  unfolding row
  row_steady i at own =
      subst (λ (o : Option Instr). Steady s (LeavesBy s i.op) (given stuck o (row_of_instr p s))) (sym at)
      (subst (λ (b : Bool). Steady s (LeavesBy s i.op) (charged b (row_of_op p i.result i.op s))) (sym own) (acts_steady i.result i.op))

-- the same of a step, which costs at most what is left
abbrev pub KeepsWithin : ℕ → State → (Option ℕ → Type 0) → ℕ → Next → Type 0
KeepsWithin left s leaves cost (Goes bytes call t) = (0 < cost) × (cost ≤ left) × (outer t ≡ outer s)
KeepsWithin left s leaves cost (Leaves value) = leaves value
KeepsWithin left s leaves cost (Ends end) = Unit {0}
KeepsWithin left s leaves cost Stuck = Unit {0}

module _ (left : ℕ) (s : State) (leaves : Option ℕ → Type 0) where
  within_left : (cost : ℕ) (n : Next) → (0 < cost → cost ≤ left) → Keeps s leaves cost n → KeepsWithin left s leaves cost n
  within_left cost (Goes bytes call t) few h = (h.0, few h.0, h.1)
  within_left cost (Leaves value) few h = h
  within_left cost (Ends end) few h = tt
  within_left cost Stuck few h = tt

  limited_by : (r : Row) (a b c : Bool) → (r.cost == 0) ≡ a → nat_lt left r.cost ≡ c → Steady s leaves r
      → KeepsWithin left s leaves (if a then r else (if b then unfinished [] else (if c then unfinished r.sought else r))).cost (if a then r else (if b then unfinished [] else (if c then unfinished r.sought else r))).next
  limited_by r true b c free more h = within_left r.cost r.next (λ some. absurd (let none = eqb-true r.cost 0 free in omega (arith, some, none))) h
  limited_by r false true c free more h = tt
  limited_by r false false true free more h = tt
  limited_by r false false false free more h = within_left r.cost r.next (λ some. let few = ltb-false left r.cost more in few) h

  limited_steady : (r : Row) → Steady s leaves r → KeepsWithin left s leaves (limited left r).cost (limited left r).next
  limited_steady r h = limited_by r (r.cost == 0) (left == 0) (nat_lt left r.cost) refl refl h

pub step_steady : (p : Program) (left : ℕ) (s : State) (i : Instr) → instr_at p s.frame ≡ Some i → i.inserted ≡ false
    → KeepsWithin left s (LeavesBy s i.op) (step p left s).cost (step p left s).next
step_steady p left s i at own = limited_steady left s (LeavesBy s i.op) (row p s) (row_steady p s i at own)
