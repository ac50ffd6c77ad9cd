-- What an external costs and needs, whatever is left of a budget.
use Rattle.std.proofs.Common.{◌≡◌, ℕ, ◌+◌, ◌*◌, ◌/◌, ◌≤◌, ◌==◌, nat_lt, inl, inr, Bool, true, false, List, [], ◌∷◌, ◌++◌, Option, Some, None, refl, sym, ap, ◌∙◌, arith}
use Rattle.std.proofs.lemmas.Bool.{cases_Bool}
use Rattle.no_ir.specs.declared.ending.Trap.{Trap}
use Rattle.no_layout.specs.declared.memory.Regions.{Regions}
use Rattle.no_heap.specs.Blocks.{size_at}
use Rattle.no_heap.specs.Fit.{fit}
use Rattle.no_lib.specs.Answers.{needed_by}
use Rattle.no_module.specs.declared.external.External.{External}
use Rattle.no_module.specs.declared.external.External.TheVariants as external
use Rattle.no_semantics.specs.Calls.{outcome_row, row_effect}
use Rattle.no_semantics.specs.Externals as ext
use Rattle.no_semantics.specs.Rows.{Row, affordable, needed}
use Rattle.no_semantics.specs.Spans.{Span}
use Rattle.no_semantics.specs.States.{State}

pub one : 1 ≤ 1
one = omega arith

-- ---- outcomes

-- something is counted; an end needs nothing but what it is learned by
abbrev pub PaidAs : ext.Outcome → ext.Effect → Type 0
PaidAs (ext.Gives v cost) e = 1 ≤ cost
PaidAs (ext.Does cost) e = 1 ≤ cost
PaidAs (ext.Exits c) e = (e.sought ≡ []) × (e.reads ++ e.writes ≡ [])
PaidAs (ext.Traps t) e = e.reads ++ e.writes ≡ []
PaidAs ext.Over e = ⊥
PaidAs ext.Stuck e = (e.sought ≡ []) × (e.reads ++ e.writes ≡ [])

abbrev pub Paid : ext.Effect → Type 0
Paid e = PaidAs e.outcome e

some_cost : (n : ℕ) → 1 ≤ 1 + n / 64
some_cost n = omega arith

text_paid : (b : Bool) (l room at : ℕ) (w : ext.World) → (l == room) ≡ b → Paid (ext.put_text room l at w)
text_paid true l room at w e = rw e refl
text_paid false l room at w e = rw e (some_cost l)

puts_paid : (r : Regions) (at : ℕ) (w : ext.World) → Paid (ext.do_puts r at w)
unfolding ext.do_puts
puts_paid r at w = text_paid _ (ext.text_length w.byte at (ext.room_of r at)) (ext.room_of r at) at w refl

malloc_paid : (size : ℕ) (w : ext.World) → Paid (ext.do_malloc size w)
unfolding ext.do_malloc
malloc_paid size w = one

cleared_paid : (o : Option ℕ) (size : ℕ) (w : ext.World) → Paid (ext.cleared o size w)
cleared_paid None size w = one
cleared_paid (Some place) size w = some_cost size

calloc_paid : (count size : ℕ) (w : ext.World) → Paid (ext.do_calloc count size w)
unfolding ext.do_calloc
calloc_paid count size w = cleared_paid (fit w.heap (count * size)) (count * size) w

free_paid : (at : ℕ) (w : ext.World) → Paid (ext.do_free at w)
unfolding ext.do_free
free_paid at w = elim (cases_Bool (at == 0)) [
  | inl is ↦ rw is one
  | inr other ↦ elim (cases_Bool (size_at w.heap at == 0)) [
    | inl none ↦ rw (other, none) refl
    | inr some ↦ rw (other, some) one
  ]
]

put_paid : (o : Option Trap) (reads : List Span) (at n : ℕ) (bytes : List ℕ) (w : ext.World) → Paid (ext.put_bytes o reads at n bytes w)
put_paid None reads at n bytes w = some_cost n
put_paid (Some t) reads at n bytes w = refl

move_paid : (r : Regions) (to from n : ℕ) (w : ext.World) → Paid (ext.do_move r to from n w)
unfolding ext.do_move
move_paid r to from n w = elim (cases_Bool (n == 0)) [
  | inl is ↦ rw is one
  | inr other ↦ rw other (put_paid _ _ to n _ w)
]

set_paid : (r : Regions) (to value n : ℕ) (w : ext.World) → Paid (ext.do_set r to value n w)
unfolding ext.do_set
set_paid r to value n w = elim (cases_Bool (n == 0)) [
  | inl is ↦ rw is one
  | inr other ↦ rw other (put_paid _ _ to n _ w)
]

valued_paid : (b : Bool) (v : ℕ) (w : ext.World) → Paid (ext.valued b v w)
valued_paid true v w = one
valued_paid false v w = (refl, refl)

getchar_paid : (w : ext.World) → Paid (ext.do_getchar w)
unfolding ext.do_getchar
getchar_paid w = one

putchar_paid : (c : ℕ) (w : ext.World) → Paid (ext.do_putchar c w)
unfolding ext.do_putchar
putchar_paid c w = one

swap_paid : (n a : ℕ) (w : ext.World) → Paid (ext.do_swap n a w)
unfolding ext.do_swap
swap_paid n a w = valued_paid _ _ w

umin_paid : (n a b : ℕ) (w : ext.World) → Paid (ext.do_umin n a b w)
unfolding ext.do_umin
umin_paid n a b w = valued_paid _ _ w

umax_paid : (n a b : ℕ) (w : ext.World) → Paid (ext.do_umax n a b w)
unfolding ext.do_umax
umax_paid n a b w = valued_paid _ _ w

smin_paid : (n a b : ℕ) (w : ext.World) → Paid (ext.do_smin n a b w)
unfolding ext.do_smin
smin_paid n a b w = valued_paid _ _ w

smax_paid : (n a b : ℕ) (w : ext.World) → Paid (ext.do_smax n a b w)
unfolding ext.do_smax
smax_paid n a b w = valued_paid _ _ w

none_paid : (args : List ℕ) (f : ext.World → ext.Effect) (w : ext.World) → ((v : ext.World) → Paid (f v)) → Paid (ext.with_none args f w)
none_paid [] f w each = each w
none_paid (a ∷ args) f w each = (refl, refl)

one_paid : (args : List ℕ) (f : ℕ → ext.World → ext.Effect) (w : ext.World) → ((a : ℕ) (v : ext.World) → Paid (f a v)) → Paid (ext.with_one args f w)
one_paid [] f w each = (refl, refl)
one_paid (a ∷ []) f w each = each a w
one_paid (a ∷ b ∷ args) f w each = (refl, refl)

two_paid : (args : List ℕ) (f : ℕ → ℕ → ext.World → ext.Effect) (w : ext.World) → ((a b : ℕ) (v : ext.World) → Paid (f a b v)) → Paid (ext.with_two args f w)
two_paid [] f w each = (refl, refl)
two_paid (a ∷ []) f w each = (refl, refl)
two_paid (a ∷ b ∷ []) f w each = each a b w
two_paid (a ∷ b ∷ c ∷ args) f w each = (refl, refl)

four_paid : (args : List ℕ) (f : ℕ → ℕ → ℕ → ext.World → ext.Effect) (w : ext.World) → ((a b c : ℕ) (v : ext.World) → Paid (f a b c v)) → Paid (ext.with_four args f w)
four_paid [] f w each = (refl, refl)
four_paid (a ∷ []) f w each = (refl, refl)
four_paid (a ∷ b ∷ []) f w each = (refl, refl)
four_paid (a ∷ b ∷ c ∷ []) f w each = (refl, refl)
four_paid (a ∷ b ∷ c ∷ d ∷ []) f w each = each a b c w
four_paid (a ∷ b ∷ c ∷ d ∷ e ∷ args) f w each = (refl, refl)

pub external_paid : (r : Regions) (e : External) (args : List ℕ) (w : ext.World) → Paid (ext.do_external r e args w)
external_paid r external.GetChar args w = none_paid args ext.do_getchar w getchar_paid
external_paid r external.PutChar args w = one_paid args ext.do_putchar w putchar_paid
external_paid r external.Puts args w = one_paid args (ext.do_puts r) w (puts_paid r)
external_paid r external.Malloc args w = one_paid args ext.do_malloc w malloc_paid
external_paid r external.Calloc args w = two_paid args ext.do_calloc w calloc_paid
external_paid r external.Free args w = one_paid args ext.do_free w free_paid
external_paid r external.Exit args w = one_paid args ext.do_exit w (λ a v. (refl, refl))
external_paid r external.Abort args w = none_paid args ext.do_abort w (λ v. refl)
external_paid r external.Move args w = four_paid args (ext.do_move r) w (move_paid r)
external_paid r external.Set args w = four_paid args (ext.do_set r) w (set_paid r)
external_paid r (external.Swap n) args w = one_paid args (ext.do_swap n) w (swap_paid n)
external_paid r (external.UMin n) args w = two_paid args (ext.do_umin n) w (umin_paid n)
external_paid r (external.UMax n) args w = two_paid args (ext.do_umax n) w (umax_paid n)
external_paid r (external.SMin n) args w = two_paid args (ext.do_smin n) w (smin_paid n)
external_paid r (external.SMax n) args w = two_paid args (ext.do_smax n) w (smax_paid n)
external_paid r external.Hint args w = one
external_paid r external.Alloca args w = (refl, refl)
external_paid r external.Map args w = (refl, refl)

-- ---- rows within what is left

module _ (into : Option ℕ) (e : ext.Effect) (s : State) where
  cost_is : (o : ext.Outcome) → PaidAs o e → (outcome_row into o e s).cost ≡ ext.cost_in o
  cost_is (ext.Gives v cost) paid = refl
  cost_is (ext.Does cost) paid = refl
  cost_is (ext.Exits c) paid = refl
  cost_is (ext.Traps t) paid = refl
  cost_is ext.Over paid = absurd paid
  cost_is ext.Stuck paid = refl

  sought_is : (o : ext.Outcome) → PaidAs o e → (outcome_row into o e s).sought ≡ e.sought
  sought_is (ext.Gives v cost) paid = refl
  sought_is (ext.Does cost) paid = refl
  sought_is (ext.Exits c) paid = sym paid.0
  sought_is (ext.Traps t) paid = refl
  sought_is ext.Over paid = absurd paid
  sought_is ext.Stuck paid = sym paid.0

  needed_is : (o : ext.Outcome) → PaidAs o e → needed (outcome_row into o e s) ≡ needed_by e
  needed_is (ext.Gives v cost) paid = refl
  needed_is (ext.Does cost) paid = refl
  needed_is (ext.Exits c) paid = rw (paid.0, paid.1) refl
  needed_is (ext.Traps t) paid = rw paid refl
  needed_is ext.Over paid = absurd paid
  needed_is ext.Stuck paid = rw (paid.0, paid.1) refl

  pub costs : Paid e → 1 ≤ (row_effect into e s).cost
  costs paid = costs_as e.outcome paid
    where
      costs_as : (o : ext.Outcome) → PaidAs o e → 1 ≤ (outcome_row into o e s).cost
      costs_as (ext.Gives v cost) paid' = paid'
      costs_as (ext.Does cost) paid' = paid'
      costs_as (ext.Exits c) paid' = one
      costs_as (ext.Traps t) paid' = one
      costs_as ext.Over paid' = absurd paid'
      costs_as ext.Stuck paid' = one

-- a row says of an effect what comes next, what it costs and which bytes it needs
pub record IsRowOf (r : Row) (into : Option ℕ) (x : ext.Effect) (s : State) : Type 0 where
  pub next : r.next ≡ (row_effect into x s).next
  pub costs : r.cost ≡ (row_effect into x s).cost
  pub seeks : r.sought ≡ (row_effect into x s).sought
  pub needs : needed r ≡ needed_by x

-- within a budget the row of an effect is that of the effect within it
pub within : (into : Option ℕ) (e : ext.Effect) (s : State) (asks : Bool) (left : ℕ) (w : ext.World) → Paid e
    → IsRowOf (affordable left (record (row_effect into e s) { asks = asks })) into (ext.bounded left e w) s
within into e s asks left w paid =
    let c = cost_is into e s e.outcome paid in
    elim (cases_Bool (nat_lt left (ext.cost_in e.outcome))) [
      | inl less ↦
          let k : nat_lt left (row_effect into e s).cost ≡ true = ap (nat_lt left) c ∙ less in
          rw (k, less) (record { next = refl; costs = refl; seeks = sought_is into e s e.outcome paid; needs = ap (λ (ss : List Span). ss ++ []) (sought_is into e s e.outcome paid) })
      | inr enough ↦
          let k : nat_lt left (row_effect into e s).cost ≡ false = ap (nat_lt left) c ∙ enough in
          rw (k, enough) (record { next = refl; costs = refl; seeks = refl; needs = needed_is into e s e.outcome paid })
    ]
