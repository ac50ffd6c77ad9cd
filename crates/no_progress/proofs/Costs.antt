-- What an external gives costs something.
use Rattle.std.proofs.Common.{ℕ, ◌*◌, ◌/◌, ◌%◌, ◌^◌, int_le, replicate, ◌<◌, ◌==◌, nat_lt, nat_le, ◌&&◌, Bool, true, false, Option, Some, None, if◌then◌else◌, List, [], ◌∷◌, arith}
use Rattle.no_ir.specs.declared.ending.Trap.{Trap}
use Rattle.no_module.specs.declared.external.External.{External}
use Rattle.no_module.specs.declared.external.External.TheVariants as external
use Rattle.no_heap.specs.Fit.{fit}
use Rattle.no_layout.specs.Memory.{refusal, read_bytes}
use Rattle.no_layout.specs.declared.memory.Regions.{Regions}
use Rattle.no_layout.specs.Orders.{swapped}
use Rattle.no_eval.specs.Numbers.{signed}
use Rattle.no_heap.specs.Blocks.{size_at}
use Rattle.no_semantics.specs.Spans.{Span, span_of}
use Rattle.no_semantics.specs.Externals.{World, Effect, Outcome, seeking, still, cost_of, room_of, text_length, put_text, cleared, first_refusal, put_bytes, valued, is_swapped_width, chosen, are_below, do_exit, do_abort, do_getchar, do_putchar, do_puts, do_malloc, do_calloc, do_free, do_move, do_set, do_swap, do_umin, do_umax, do_smin, do_smax, with_none, with_one, with_two, with_four, do_external}
use Rattle.no_semantics.specs.Externals as outcome

-- what goes on costs something
abbrev pub Costs : Outcome → Type 0
Costs (outcome.Gives v cost) = 0 < cost
Costs (outcome.Does cost) = 0 < cost
Costs _ = Unit {0}

cost_some : (n : ℕ) → 0 < cost_of n
cost_some n = omega arith

none_cost : (args : List ℕ) (f : World → Effect) (w : World) → Costs (f w).outcome → Costs (with_none args f w).outcome
none_cost [] f w h = h
none_cost (a ∷ others) f w h = tt

one_cost : (args : List ℕ) (f : ℕ → World → Effect) (w : World) → ((a : ℕ) → Costs (f a w).outcome) → Costs (with_one args f w).outcome
one_cost [] f w h = tt
one_cost (a ∷ []) f w h = h a
one_cost (a ∷ b ∷ others) f w h = tt

two_cost : (args : List ℕ) (f : ℕ → ℕ → World → Effect) (w : World) → ((a b : ℕ) → Costs (f a b w).outcome) → Costs (with_two args f w).outcome
two_cost [] f w h = tt
two_cost (a ∷ []) f w h = tt
two_cost (a ∷ b ∷ []) f w h = h a b
two_cost (a ∷ b ∷ c ∷ others) f w h = tt

four_cost : (args : List ℕ) (f : ℕ → ℕ → ℕ → World → Effect) (w : World) → ((a b c : ℕ) → Costs (f a b c w).outcome) → Costs (with_four args f w).outcome
four_cost [] f w h = tt
four_cost (a ∷ []) f w h = tt
four_cost (a ∷ b ∷ []) f w h = tt
four_cost (a ∷ b ∷ c ∷ []) f w h = tt
four_cost (a ∷ b ∷ c ∷ d ∷ []) f w h = h a b c
four_cost (a ∷ b ∷ c ∷ d ∷ e ∷ others) f w h = tt

-- one of two effects
if_cost : (b : Bool) (e f : Effect) → Costs e.outcome → Costs f.outcome → Costs (if b then e else f).outcome
if_cost true e f h k = h
if_cost false e f h k = k

put_cost : (o : Option Trap) (reads : List Span) (at n : ℕ) (bytes : List ℕ) (w : World) → Costs (put_bytes o reads at n bytes w).outcome
put_cost (Some trap) reads at n bytes w = tt
put_cost None reads at n bytes w = cost_some n

cleared_cost : (o : Option ℕ) (size : ℕ) (w : World) → Costs (cleared o size w).outcome
cleared_cost None size w = omega arith
cleared_cost (Some place) size w = cost_some size

valued_cost : (b : Bool) (v : ℕ) (w : World) → Costs (valued b v w).outcome
valued_cost true v w = omega arith
valued_cost false v w = tt

text_cost : (room l at : ℕ) (w : World) → Costs (put_text room l at w).outcome
text_cost room l at w = if_cost (l == room) _ _ tt (cost_some l)

pub external_costs : (r : Regions) (e : External) (args : List ℕ) (w : World) → Costs (do_external r e args w).outcome
unfolding do_getchar do_putchar do_puts do_malloc do_calloc do_free do_move do_set do_swap do_umin do_umax do_smin do_smax
external_costs r external.GetChar args w = none_cost args do_getchar w (omega arith)
external_costs r external.PutChar args w = one_cost args do_putchar w (λ a. omega arith)
external_costs r external.Puts args w = one_cost args (do_puts r) w (λ a. text_cost (room_of r a) (text_length w.byte a (room_of r a)) a w)
external_costs r external.Malloc args w = one_cost args do_malloc w (λ a. omega arith)
external_costs r external.Calloc args w = two_cost args do_calloc w (λ a b. cleared_cost (fit w.heap (a * b)) (a * b) w)
external_costs r external.Free args w = one_cost args do_free w (λ a. if_cost (a == 0) _ _ (omega arith) (if_cost (size_at w.heap a == 0) _ _ tt (omega arith)))
external_costs r external.Exit args w = one_cost args do_exit w (λ a. tt)
external_costs r external.Abort args w = none_cost args do_abort w tt
external_costs r external.Move args w = four_cost args (do_move r) w (λ a b n. if_cost (n == 0) _ _ (omega arith)
    (put_cost (first_refusal (refusal r false b n) (refusal r true a n)) (span_of b n) a n (read_bytes w.byte b n) w))
external_costs r external.Set args w = four_cost args (do_set r) w (λ a b n. if_cost (n == 0) _ _ (omega arith) (put_cost (refusal r true a n) [] a n (replicate n (b % 256)) w))
external_costs r (external.Swap n) args w = one_cost args (do_swap n) w (λ a. valued_cost (is_swapped_width n && nat_lt a (2 ^ n)) (swapped (n / 8) a) w)
external_costs r (external.UMin n) args w = two_cost args (do_umin n) w (λ a b. valued_cost (are_below n a b) (chosen (nat_le a b) a b) w)
external_costs r (external.UMax n) args w = two_cost args (do_umax n) w (λ a b. valued_cost (are_below n a b) (chosen (nat_le b a) a b) w)
external_costs r (external.SMin n) args w = two_cost args (do_smin n) w (λ a b. valued_cost (are_below n a b) (chosen (int_le (signed n a) (signed n b)) a b) w)
external_costs r (external.SMax n) args w = two_cost args (do_smax n) w (λ a b. valued_cost (are_below n a b) (chosen (int_le (signed n b) (signed n a)) a b) w)
external_costs r external.Hint args w = omega arith
external_costs r external.Alloca args w = tt
external_costs r external.Map args w = tt
