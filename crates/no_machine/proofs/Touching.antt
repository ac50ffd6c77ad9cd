-- Which bytes instructions touch.
use Rattle.std.proofs.Common.{◌≡◌, ℕ, zero, suc, ◌+◌, ◌-◌, ◌*◌, ◌%◌, ◌^◌, ◌<◌, ◌≤◌, ◌==◌, nat_lt, inl, inr, Bool, true, false, IsTrue, true≢false, if◌then◌else◌, List, [], ◌∷◌, ◌++◌, append-nil, length-append, drop, length, map, replicate, slice_get, slice_range, Option, Some, None, refl, sym, ap, subst, ◌∙◌, arith}
use Rattle.std.proofs.lemmas.Bool.{cases_Bool, eqb-true}
use Rattle.no_heap.proofs.Gaps.{fit_large}
use Rattle.no_heap.specs.Blocks.{AreLive}
use Rattle.no_heap.specs.Fit.{fit}
use Rattle.no_heap.specs.declared.block.Block.{Block}
use Rattle.no_ir.specs.declared.ending.Trap.{Trap}
use Rattle.no_ir.specs.declared.function.Function.{Function}
use Rattle.no_ir.specs.declared.instruction.Instr.{Instr}
use Rattle.no_ir.specs.declared.instruction.Op.{Op}
use Rattle.no_ir.specs.declared.instruction.Op.TheVariants as op
use Rattle.no_ir.specs.declared.instruction.Operand.{Operand}
use Rattle.no_ir.specs.declared.types.Ty.{Ty}
use Rattle.no_layout.specs.Memory.{read_bytes, refusal, stack_start}
use Rattle.no_layout.specs.declared.memory.Regions.{Regions}
use Rattle.no_module.specs.Externals.{external_of}
use Rattle.no_module.specs.Functions.{is_declared}
use Rattle.no_module.specs.declared.external.External.{External}
use Rattle.no_module.specs.declared.external.External.TheVariants as external
use Rattle.no_semantics.specs.Access.{allocated, fetched, row_alloca, stored}
use Rattle.no_semantics.specs.Acting.{row, row_of_op}
use Rattle.no_semantics.specs.Calls.{call_room, called, effect_next, entered, entry_frame, invoked, outcome_row, returned, returned_in, row_external, row_map, row_return, row_ret, row_room, row_effect, world_of}
use Rattle.no_semantics.specs.Control.{arrived, branched, case_label, go, row_br, row_cond_br, row_switch}
use Rattle.no_semantics.specs.Externals as ext
use Rattle.no_semantics.specs.Registers.{argument_of, given, operand}
use Rattle.no_semantics.specs.Results.{Valued, Number, Traps, NoValue, alloca_value, loaded}
use Rattle.no_semantics.specs.Rows.{Row, Next, Calling, Goes, computed, needed, stuck}
use Rattle.no_semantics.specs.Spans.{Span, span_of}
use Rattle.no_semantics.specs.States.{Frame, State, answered, instr_at}
use Rattle.no_semantics.specs.Values.{Program}
use Rattle.no_code.specs.Coded.{IsCell, is_phi}
use Rattle.no_code.specs.Source.{Source}
use Rattle.no_code.specs.declared.code.Cell.{Cell}
use Rattle.no_code.specs.declared.code.Cell.TheVariants as cell
use Rattle.no_code.specs.declared.code.Code.{Code}
use Rattle.no_machine.specs.Watching.{GoesOn, IsCallTouch, IsEffectTouch, IsTouchOf, needs_of, spans_of}
use Rattle.no_machine.specs.declared.watch.Touch.{Touch}
use Rattle.no_machine.specs.declared.watch.Touch.TheVariants as touch

-- ---- externals

length_read : (f : ℕ → ℕ) (at n : ℕ) → length (read_bytes f at n) ≡ n
length_read f at zero = refl
length_read f at (suc n) = ap suc (length_read f (at + 1) n)

text_touch : (room l at : ℕ) (w : ext.World) → IsEffectTouch (touch.Text at) (ext.put_text room l at w)
text_touch room l at w = elim (cases_Bool (l == room)) [
  | inl is ↦ rw is (λ goes. absurd goes)
  | inr other ↦ rw other (λ goes. append-nil (span_of at (l + 1)) ∙ ap (span_of at) (sym (length-append (read_bytes w.byte at l) (10 ∷ []) ∙ ap (λ (n : ℕ). n + 1) (length_read w.byte at l))))
]

pub puts_touch : (r : Regions) (at : ℕ) (w : ext.World) → IsEffectTouch (touch.Text at) (ext.do_puts r at w)
unfolding ext.do_puts
puts_touch r at w = text_touch (ext.room_of r at) (ext.text_length w.byte at (ext.room_of r at)) at w

placed_touch : (o : Option ℕ) (place size : ℕ) (w : ext.World) → Some place ≡ o → IsEffectTouch (touch.Bytes place size) (ext.cleared o size w)
placed_touch None place size w e = absurd cc
placed_touch (Some q) place size w e = (let same : place ≡ q = cc in λ goes. ap (λ (k : ℕ). span_of k size) (sym same))

unplaced_touch : (o : Option ℕ) (size : ℕ) (w : ext.World) → None ≡ o → IsEffectTouch touch.Nothing (ext.cleared o size w)
unplaced_touch None size w e = λ goes. refl
unplaced_touch (Some q) size w e = absurd cc

pub calloc_touch : (count size product place : ℕ) (heap : List Block) (w : ext.World) → product ≡ count * size → Some place ≡ fit heap product → w.heap ≡ heap → IsEffectTouch (touch.Bytes place product) (ext.do_calloc count size w)
unfolding ext.do_calloc
calloc_touch count size product place heap w is found same =
    subst (λ (n : ℕ). IsEffectTouch (touch.Bytes place product) (ext.cleared (fit w.heap n) n w)) is
    (placed_touch (fit w.heap product) place product w (found ∙ ap (λ (h : List Block). fit h product) (sym same)))

pub calloc_none : (count size product : ℕ) (heap : List Block) (w : ext.World) → product ≡ count * size → None ≡ fit heap product → w.heap ≡ heap → IsEffectTouch touch.Nothing (ext.do_calloc count size w)
unfolding ext.do_calloc
calloc_none count size product heap w is found same =
    subst (λ (n : ℕ). IsEffectTouch touch.Nothing (ext.cleared (fit w.heap n) n w)) is
    (unplaced_touch (fit w.heap product) product w (found ∙ ap (λ (h : List Block). fit h product) (sym same)))

pub calloc_large : (count size : ℕ) (heap : List Block) (w : ext.World) → AreLive heap → 2 ^ 64 ≤ count * size → w.heap ≡ heap → IsEffectTouch touch.Nothing (ext.do_calloc count size w)
calloc_large count size heap w live large same = calloc_none count size (count * size) heap w refl (fit_large heap (count * size) live (omega arith)) same

put_touch : (o : Option Trap) (reads : List Span) (at n : ℕ) (bytes : List ℕ) (w : ext.World) (t : Touch) → reads ++ span_of at n ≡ spans_of t 0 → IsEffectTouch t (ext.put_bytes o reads at n bytes w)
put_touch None reads at n bytes w t e = λ goes. e
put_touch (Some trap) reads at n bytes w t e = λ goes. absurd goes

no_span : (at n : ℕ) → (n == 0) ≡ true → span_of at n ≡ []
no_span at n e = rw e refl

pub move_touch : (r : Regions) (to from n : ℕ) (w : ext.World) → IsEffectTouch (touch.Pair from to n) (ext.do_move r to from n w)
unfolding ext.do_move
move_touch r to from n w = elim (cases_Bool (n == 0)) [
  | inl is ↦
      subst (λ (b : Bool). IsEffectTouch (touch.Pair from to n) (if b then ext.still (ext.Does 1) w else ext.put_bytes (ext.first_refusal (refusal r false from n) (refusal r true to n)) (span_of from n) to n (read_bytes w.byte from n) w)) (sym is)
      (λ goes. sym (ap (λ (l : List Span). l ++ span_of to n) (no_span from n is) ∙ no_span to n is))
  | inr other ↦
      subst (λ (b : Bool). IsEffectTouch (touch.Pair from to n) (if b then ext.still (ext.Does 1) w else ext.put_bytes (ext.first_refusal (refusal r false from n) (refusal r true to n)) (span_of from n) to n (read_bytes w.byte from n) w)) (sym other)
      (put_touch (ext.first_refusal (refusal r false from n) (refusal r true to n)) (span_of from n) to n (read_bytes w.byte from n) w (touch.Pair from to n) refl)
]

pub set_touch : (r : Regions) (to value n : ℕ) (w : ext.World) → IsEffectTouch (touch.Bytes to n) (ext.do_set r to value n w)
unfolding ext.do_set
set_touch r to value n w = elim (cases_Bool (n == 0)) [
  | inl is ↦
      subst (λ (b : Bool). IsEffectTouch (touch.Bytes to n) (if b then ext.still (ext.Does 1) w else ext.put_bytes (refusal r true to n) [] to n (replicate n (value % 256)) w)) (sym is)
      (λ goes. sym (no_span to n is))
  | inr other ↦
      subst (λ (b : Bool). IsEffectTouch (touch.Bytes to n) (if b then ext.still (ext.Does 1) w else ext.put_bytes (refusal r true to n) [] to n (replicate n (value % 256)) w)) (sym other)
      (put_touch (refusal r true to n) [] to n (replicate n (value % 256)) w (touch.Bytes to n) refl)
]

-- those that touch nothing
abbrev pub touches_nothing : External → Bool
touches_nothing external.Puts = false
touches_nothing external.Calloc = false
touches_nothing external.Move = false
touches_nothing external.Set = false
touches_nothing _ = true

abbrev None' : ext.Effect → Type 0
None' e = needs_of e ≡ []

valued_none : (b : Bool) (v : ℕ) (w : ext.World) → None' (ext.valued b v w)
valued_none true v w = refl
valued_none false v w = refl

free_none : (at : ℕ) (w : ext.World) → None' (ext.do_free at w)
unfolding ext.do_free
free_none at w = elim (cases_Bool (at == 0)) [
  | inl is ↦ rw is refl
  | inr other ↦ elim (cases_Bool (Rattle.no_heap.specs.Blocks.size_at w.heap at == 0)) [
    | inl none ↦ rw (other, none) refl
    | inr some ↦ rw (other, some) refl
  ]
]

getchar_none : (w : ext.World) → None' (ext.do_getchar w)
unfolding ext.do_getchar
getchar_none w = refl

putchar_none : (c : ℕ) (w : ext.World) → None' (ext.do_putchar c w)
unfolding ext.do_putchar
putchar_none c w = refl

malloc_none : (size : ℕ) (w : ext.World) → None' (ext.do_malloc size w)
unfolding ext.do_malloc
malloc_none size w = refl

swap_none : (n a : ℕ) (w : ext.World) → None' (ext.do_swap n a w)
unfolding ext.do_swap
swap_none n a w = valued_none _ _ w

umin_none : (n a b : ℕ) (w : ext.World) → None' (ext.do_umin n a b w)
unfolding ext.do_umin
umin_none n a b w = valued_none _ _ w

umax_none : (n a b : ℕ) (w : ext.World) → None' (ext.do_umax n a b w)
unfolding ext.do_umax
umax_none n a b w = valued_none _ _ w

smin_none : (n a b : ℕ) (w : ext.World) → None' (ext.do_smin n a b w)
unfolding ext.do_smin
smin_none n a b w = valued_none _ _ w

smax_none : (n a b : ℕ) (w : ext.World) → None' (ext.do_smax n a b w)
unfolding ext.do_smax
smax_none n a b w = valued_none _ _ w

with_none_none : (args : List ℕ) (f : ext.World → ext.Effect) (w : ext.World) → None' (f w) → None' (ext.with_none args f w)
with_none_none [] f w each = each
with_none_none (a ∷ args) f w each = refl

with_one_none : (args : List ℕ) (f : ℕ → ext.World → ext.Effect) (w : ext.World) → ((a : ℕ) → None' (f a w)) → None' (ext.with_one args f w)
with_one_none [] f w each = refl
with_one_none (a ∷ []) f w each = each a
with_one_none (a ∷ b ∷ args) f w each = refl

with_two_none : (args : List ℕ) (f : ℕ → ℕ → ext.World → ext.Effect) (w : ext.World) → ((a b : ℕ) → None' (f a b w)) → None' (ext.with_two args f w)
with_two_none [] f w each = refl
with_two_none (a ∷ []) f w each = refl
with_two_none (a ∷ b ∷ []) f w each = each a b
with_two_none (a ∷ b ∷ c ∷ args) f w each = refl

others_none : (r : Regions) (e : External) (args : List ℕ) (w : ext.World) → touches_nothing e ≡ true → None' (ext.do_external r e args w)
others_none r external.GetChar args w is = with_none_none args ext.do_getchar w (getchar_none w)
others_none r external.PutChar args w is = with_one_none args ext.do_putchar w (λ c. putchar_none c w)
others_none r external.Puts args w is = absurd (true≢false (sym is))
others_none r external.Malloc args w is = with_one_none args ext.do_malloc w (λ a. malloc_none a w)
others_none r external.Calloc args w is = absurd (true≢false (sym is))
others_none r external.Free args w is = with_one_none args ext.do_free w (λ a. free_none a w)
others_none r external.Exit args w is = with_one_none args ext.do_exit w (λ a. refl)
others_none r external.Abort args w is = with_none_none args ext.do_abort w refl
others_none r external.Move args w is = absurd (true≢false (sym is))
others_none r external.Set args w is = absurd (true≢false (sym is))
others_none r (external.Swap n) args w is = with_one_none args (ext.do_swap n) w (λ a. swap_none n a w)
others_none r (external.UMin n) args w is = with_two_none args (ext.do_umin n) w (λ a b. umin_none n a b w)
others_none r (external.UMax n) args w is = with_two_none args (ext.do_umax n) w (λ a b. umax_none n a b w)
others_none r (external.SMin n) args w is = with_two_none args (ext.do_smin n) w (λ a b. smin_none n a b w)
others_none r (external.SMax n) args w is = with_two_none args (ext.do_smax n) w (λ a b. smax_none n a b w)
others_none r external.Hint args w is = refl
others_none r external.Alloca args w is = refl
others_none r external.Map args w is = refl

pub others_touch : (r : Regions) (e : External) (args : List ℕ) (w : ext.World) → touches_nothing e ≡ true → IsEffectTouch touch.Nothing (ext.do_external r e args w)
others_touch r e args w is = λ goes. others_none r e args w is

-- by lists of arguments

pub text_of : (r : Regions) (args : List ℕ) (at : ℕ) (w : ext.World) → args ≡ at ∷ [] → IsEffectTouch (touch.Text at) (ext.with_one args (ext.do_puts r) w)
text_of r args at w is = subst (λ (xs : List ℕ). IsEffectTouch (touch.Text at) (ext.with_one xs (ext.do_puts r) w)) (sym is) (puts_touch r at w)

pub two_of : (t : Touch) (args : List ℕ) (x y : ℕ) (f : ℕ → ℕ → ext.World → ext.Effect) (w : ext.World) → args ≡ x ∷ y ∷ [] → IsEffectTouch t (f x y w) → IsEffectTouch t (ext.with_two args f w)
two_of t args x y f w is h = subst (λ (xs : List ℕ). IsEffectTouch t (ext.with_two xs f w)) (sym is) h

pub four_of : (t : Touch) (args : List ℕ) (x y z last : ℕ) (f : ℕ → ℕ → ℕ → ext.World → ext.Effect) (w : ext.World) → args ≡ x ∷ y ∷ z ∷ last ∷ [] → IsEffectTouch t (f x y z w) → IsEffectTouch t (ext.with_four args f w)
four_of t args x y z last f w is h = subst (λ (xs : List ℕ). IsEffectTouch t (ext.with_four xs f w)) (sym is) h

-- ---- rows

abbrev NoneIn : Row → Type 0
NoneIn x = needed x ≡ []

none_touch : (x : Row) → NoneIn x → IsTouchOf touch.Nothing x
none_touch x none = λ bytes call after goes. none

computed_none : (into : Option ℕ) (v : Valued) (s : State) → NoneIn (computed into v s)
computed_none into (Number n) s = refl
computed_none into (Traps t) s = refl
computed_none into NoValue s = refl

allocated_none : (into : Option ℕ) (v : Valued) (s : State) → NoneIn (allocated into v s)
allocated_none into (Number n) s = refl
allocated_none into (Traps t) s = refl
allocated_none into NoValue s = refl

arrived_none : (s : State) (o : Option Frame) → NoneIn (arrived s o)
arrived_none s None = refl
arrived_none s (Some f) = refl

alloca_none : (p : Program) (into : Option ℕ) (t : Ty) (count : Option (ℕ × Operand)) (align : Option ℕ) (s : State) → NoneIn (row_alloca p into t count align s)
unfolding row_alloca
alloca_none p into t count align s = allocated_none into (alloca_value p s.frame.registers s.sp t count align) s

br_none : (p : Program) (l : ℕ) (s : State) → NoneIn (row_br p l s)
unfolding row_br
br_none p l s = arrived_none s (branched p s.frame l)

given_none : (o : Option ℕ) (f : ℕ → Row) → ((n : ℕ) → NoneIn (f n)) → NoneIn (given stuck o f)
given_none None f h = refl
given_none (Some n) f h = h n

cond_none : (p : Program) (c : Operand) (l k : ℕ) (s : State) → NoneIn (row_cond_br p c l k s)
unfolding row_cond_br
cond_none p c l k s = given_none (operand p 1 s.frame.registers c) _ (λ x. arrived_none s (branched p s.frame (if x == 1 then l else k)))

switch_none : (p : Program) (w : ℕ) (a : Operand) (l : ℕ) (cases : List (ℕ × ℕ)) (s : State) → NoneIn (row_switch p w a l cases s)
unfolding row_switch
switch_none p w a l cases s = given_none (operand p w s.frame.registers a) _ (λ x. arrived_none s (branched p s.frame (case_label x l cases)))

returned_in_none : (s : State) (callers : List Frame) (o : Option Frame) → NoneIn (returned_in s callers o)
returned_in_none s callers None = refl
returned_in_none s callers (Some f) = refl

returned_none : (p : Program) (value : Option ℕ) (callers : List Frame) (s : State) → NoneIn (returned p value callers s)
returned_none p value [] s = refl
returned_none p value (c ∷ callers) s = returned_in_none s callers (given None (instr_at p c) (λ i. answered i.result value c))

ret_none : (p : Program) (value : Option (Ty × Operand)) (s : State) → NoneIn (row_ret p value s)
unfolding row_ret
ret_none p None s = returned_none p None s.callers s
ret_none p (Some x) s = given_none (argument_of p s.frame.registers x) _ (λ n. returned_none p (Some n) s.callers s)

-- all but those that read or write memory, and calls
abbrev pub is_quiet : Op → Bool
is_quiet (op.Load volatile t a) = false
is_quiet (op.Store volatile t v a) = false
is_quiet (op.Call t callee args) = false
is_quiet _ = true

quiet_none : (p : Program) (into : Option ℕ) (q : Op) (s : State) → is_quiet q ≡ true → NoneIn (row_of_op p into q s)
quiet_none p into (op.Binary o w a b) s is = computed_none into _ s
quiet_none p into (op.Compare o t a b) s is = computed_none into _ s
quiet_none p into (op.Cast o t a u) s is = computed_none into _ s
quiet_none p into (op.Freeze t a) s is = computed_none into _ s
quiet_none p into (op.Select c t a b) s is = computed_none into _ s
quiet_none p into (op.Phi t pairs) s is = refl
quiet_none p into (op.Alloca t count align) s is = alloca_none p into t count align s
quiet_none p into (op.Load volatile t a) s is = absurd (true≢false (sym is))
quiet_none p into (op.Store volatile t v a) s is = absurd (true≢false (sym is))
quiet_none p into (op.Gep t a indices) s is = computed_none into _ s
quiet_none p into (op.Call t callee args) s is = absurd (true≢false (sym is))
quiet_none p into (op.Br l) s is = br_none p l s
quiet_none p into (op.CondBr c l k) s is = cond_none p c l k s
quiet_none p into (op.Switch w a l cases) s is = switch_none p w a l cases s
quiet_none p into (op.Ret value) s is = ret_none p value s
quiet_none p into op.Unreachable s is = refl

pub quiet_touch : (p : Program) (into : Option ℕ) (q : Op) (s : State) → is_quiet q ≡ true → IsTouchOf touch.Nothing (row_of_op p into q s)
quiet_touch p into q s is = none_touch (row_of_op p into q s) (quiet_none p into q s is)

pub fetched_touch : (into : Option ℕ) (p : Program) (byte : ℕ → ℕ) (w at size : ℕ) (s : State) (refused : Option Trap) → IsTouchOf (touch.Bytes at size) (fetched into (loaded p byte w at refused) at size s)
fetched_touch into p byte w at size s None = λ bytes call after goes. append-nil (span_of at size)
fetched_touch into p byte w at size s (Some t) = λ bytes call after goes. absurd cc

pub stored_touch : (p : Program) (at size n : ℕ) (s : State) (refused : Option Trap) → IsTouchOf (touch.Bytes at size) (stored p at size n s refused)
stored_touch p at size n s None = λ bytes call after goes. refl
stored_touch p at size n s (Some t) = λ bytes call after goes. absurd cc

-- ---- calls

entered_none : (k : ℕ) (g : Function) (ns : List ℕ) (s : State) → NoneIn (entered k g ns s)
entered_none k g ns s = of (nat_lt s.sp (stack_start + call_room)) (entry_frame k g ns s.sp)
  where
    with_frame : (sp : ℕ) (o : Option Frame) → NoneIn (called k ns sp s o)
    with_frame sp None = refl
    with_frame sp (Some f) = refl

    of : (b : Bool) (o : Option Frame) → NoneIn (if b then Rattle.no_semantics.specs.Rows.trapping Rattle.no_ir.specs.declared.ending.Trap.TheVariants.StackOverflow else called k ns (s.sp - call_room) s o)
    of true o = refl
    of false o = with_frame (s.sp - call_room) o

room_none : (into : Option ℕ) (ns : List ℕ) (s : State) → NoneIn (row_room into ns s)
room_none into [] s = refl
room_none into (n ∷ []) s = refl
room_none into (n ∷ size ∷ []) s = refl
room_none into (n ∷ size ∷ align ∷ []) s = allocated_none into _ s
room_none into (n ∷ size ∷ align ∷ a ∷ ns) s = refl

map_none : (p : Program) (into : Option ℕ) (ns : List ℕ) (s : State) → NoneIn (row_map p into ns s)
map_none p into [] s = refl
map_none p into (at ∷ []) s = arrived_none s _
map_none p into (at ∷ a ∷ ns) s = refl

outcome_touch : (t : Touch) (into : Option ℕ) (o : ext.Outcome) (e : ext.Effect) (s : State) → (GoesOn o → needs_of e ≡ spans_of t (length e.output)) → IsTouchOf t (outcome_row into o e s)
outcome_touch t into o e s = by o
  where
    wrote : (f : Option Frame) (bytes : List ℕ) (call : Option Calling) (after : State) → effect_next e s f ≡ Goes bytes call after → e.output ≡ bytes
    wrote None bytes call after goes = absurd cc
    wrote (Some f) bytes call after goes = cc

    by : (o : ext.Outcome) → (GoesOn o → needs_of e ≡ spans_of t (length e.output)) → IsTouchOf t (outcome_row into o e s)
    by (ext.Gives v cost) h = λ bytes call after goes. h tt ∙ ap (λ (l : List ℕ). spans_of t (length l)) (wrote (answered into (Some v) s.frame) bytes call after goes)
    by (ext.Does cost) h = λ bytes call after goes. h tt ∙ ap (λ (l : List ℕ). spans_of t (length l)) (wrote (answered into None s.frame) bytes call after goes)
    by (ext.Exits c) h = λ bytes call after goes. absurd cc
    by (ext.Traps x) h = λ bytes call after goes. absurd cc
    by ext.Over h = λ bytes call after goes. absurd cc
    by ext.Stuck h = λ bytes call after goes. absurd cc

external_touch : (t : Touch) (p : Program) (into : Option ℕ) (which : External) (heap : List Block) (ns : List ℕ) (s : State) → IsCallTouch t (Some which) heap ns → s.heap ≡ heap → IsTouchOf t (row_external p into which ns s)
external_touch t p into external.Alloca heap ns s is same = subst (λ (x : Touch). IsTouchOf x (row_room into ns s)) (sym is) (none_touch (row_room into ns s) (room_none into ns s))
external_touch t p into external.Map heap ns s is same = subst (λ (x : Touch). IsTouchOf x (row_map p into ns s)) (sym is) (none_touch (row_map p into ns s) (map_none p into ns s))
external_touch t p into which heap ns s is same = outcome_touch t into (ext.do_external p.regions which ns (world_of s)).outcome (ext.do_external p.regions which ns (world_of s)) s (is p.regions (world_of s) same)

pub invoked_touch : (t : Touch) (p : Program) (into : Option ℕ) (k : ℕ) (ns : List ℕ) (s : State) (g : Function) (heap : List Block) → IsCallTouch t (external_of p.role g) heap ns → s.heap ≡ heap → IsTouchOf t (invoked p into k ns s g)
invoked_touch t p into k ns s g heap is same = elim (cases_Bool (is_declared g)) [
  | inl declared ↦
      subst (λ (b : Bool). IsTouchOf t (if b then given stuck (external_of p.role g) (λ e. row_external p into e ns s) else entered k g ns s)) (sym declared) (of (external_of p.role g) is)
  | inr defined ↦
      let none : external_of p.role g ≡ None = ap (λ (b : Bool). if b then Rattle.no_module.specs.Externals.external_typed p.role g.name g.result g.params else None) defined in
      let nothing : t ≡ touch.Nothing = subst (λ (o : Option External). IsCallTouch t o heap ns) none is in
      subst (λ (b : Bool). IsTouchOf t (if b then given stuck (external_of p.role g) (λ e. row_external p into e ns s) else entered k g ns s)) (sym defined)
      (subst (λ (x : Touch). IsTouchOf x (entered k g ns s)) (sym nothing) (none_touch (entered k g ns s) (entered_none k g ns s)))
]
  where
    of : (o : Option External) → IsCallTouch t o heap ns → IsTouchOf t (given stuck o (λ e. row_external p into e ns s))
    of None is = λ bytes call after goes. absurd cc
    of (Some which) is = external_touch t p into which heap ns s is same

-- ---- cells

-- a cell that reads or writes no memory, and is no call
abbrev pub is_quiet_cell : Cell → Bool
is_quiet_cell (cell.Load w into x) = false
is_quiet_cell (cell.Store w y x) = false
is_quiet_cell (cell.Call into f from to) = false
is_quiet_cell (cell.CallAt into from to) = false
is_quiet_cell _ = true

pub quiet_as : (c : Cell) → ((w into x : ℕ) → c ≡ cell.Load w into x → ⊥) → ((w y x : ℕ) → c ≡ cell.Store w y x → ⊥) → ((into f from to : ℕ) → c ≡ cell.Call into f from to → ⊥) → ((into from to : ℕ) → c ≡ cell.CallAt into from to → ⊥) → is_quiet_cell c ≡ true
quiet_as (cell.Load w into x) l s k a = absurd (l w into x refl)
quiet_as (cell.Store w y x) l s k a = absurd (s w y x refl)
quiet_as (cell.Call into f from to) l s k a = absurd (k into f from to refl)
quiet_as (cell.CallAt into from to) l s k a = absurd (a into from to refl)
quiet_as _ l s k a = refl

phi_quiet : (q : Op) → is_phi q ≡ true → is_quiet q ≡ true
phi_quiet (op.Phi t pairs) is = refl
phi_quiet _ is = absurd (true≢false (sym is))

pub quiet_cell : (S : Source) (n : ℕ) (code : Code) (g : Function) (base label : ℕ) (i : Instr) (c : Cell) → IsCell S n code g base label i c → is_quiet_cell c ≡ true → is_quiet i.op ≡ true
quiet_cell S n code g base label i cell.Nothing r q = absurd r
quiet_cell S n code g base label i cell.Phi r q = phi_quiet i.op r
quiet_cell S n code g base label i (cell.Load w into x) r q = absurd (true≢false (sym q))
quiet_cell S n code g base label i (cell.Store w y x) r q = absurd (true≢false (sym q))
quiet_cell S n code g base label i (cell.Call into f from to) r q = absurd (true≢false (sym q))
quiet_cell S n code g base label i (cell.CallAt into from to) r q = absurd (true≢false (sym q))
quiet_cell S n code g base label i cell.Leave r q = ap is_quiet r
quiet_cell S n code g base label i cell.Unreachable r q = ap is_quiet r
quiet_cell S n code g base label i c r q = ap is_quiet r.is

-- ---- what is told of an external

pub others_call : (which : External) (heap : List Block) (ns : List ℕ) → (which ≡ external.Puts → ⊥) → (which ≡ external.Calloc → ⊥) → (which ≡ external.Move → ⊥) → (which ≡ external.Set → ⊥) → IsCallTouch touch.Nothing (Some which) heap ns
others_call external.Puts heap ns p c m s = absurd (p refl)
others_call external.Calloc heap ns p c m s = absurd (c refl)
others_call external.Move heap ns p c m s = absurd (m refl)
others_call external.Set heap ns p c m s = absurd (s refl)
others_call external.Alloca heap ns p c m s = refl
others_call external.Map heap ns p c m s = refl
others_call which heap ns p c m s = λ r w same. others_touch r which ns w refl
