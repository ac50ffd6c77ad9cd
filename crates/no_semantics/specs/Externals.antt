-- What each external function does: what it gives and costs, the bytes that it reads and writes, and what it leaves
-- (docs/LANGUAGE.md, "Externals").
use Rattle.std.specs.Prelude.{ℕ, zero, suc, ◌+◌, ◌-◌, ◌*◌, ◌/◌, ◌%◌, ◌^◌, Bool, true, false, ◌&&◌, ◌||◌, ◌==◌, nat_lt, nat_le, int_le, if◌then◌else◌, List, [], ◌∷◌, ◌++◌, replicate, Option, Some, None}
use Rattle.no_ir.specs.declared.ending.Trap.{Trap}
use Rattle.no_ir.specs.declared.ending.Trap.TheVariants.{Abort, BadAddress, BadFree}
use Rattle.no_module.specs.declared.external.External.{External}
use Rattle.no_module.specs.declared.external.External.TheVariants as external
use Rattle.no_eval.specs.Numbers.{signed}
use Rattle.no_layout.specs.declared.memory.Regions.{Regions}
use Rattle.no_layout.specs.Memory.{constants_start, globals_start, heap_start, heap_end, stack_start, stack_end, within, read_bytes, refusal, written}
use Rattle.no_layout.specs.Orders.{swapped}
use Rattle.no_heap.specs.declared.block.Block.{Block}
use Rattle.no_heap.specs.Blocks.{set_block, size_at}
use Rattle.no_heap.specs.Fit.{fit, rounded}
use Rattle.no_semantics.specs.Spans.{Span, span_of}

-- ---- effects

-- what an external may change of a state: the byte at each address, the live blocks, and all that is left of the input
pub record World : Type 0 where
  pub byte : ℕ → ℕ
  pub heap : List Block
  pub input : List ℕ

-- what comes of a call: a value or none, with its cost, or the run's end; or its cost is more than is left. What has no meaning is stuck
pub data Outcome : Type 0 where
  Gives : (value cost : ℕ) → Outcome
  Does : (cost : ℕ) → Outcome
  Exits : (status : ℕ) → Outcome
  Traps : (trap : Trap) → Outcome
  Over : Outcome
  Stuck : Outcome

-- what a call does: the bytes that it reads to learn its cost or its trap, those that it reads and writes besides, what it outputs and leaves.
-- Where the outcome ends the run, the call touches nothing, whatever was read to learn that
pub record Effect : Type 0 where
  pub sought : List Span
  pub reads : List Span
  pub writes : List Span
  pub outcome : Outcome
  pub output : List ℕ
  pub world : World

-- some bytes are read to learn the outcome, and nothing is changed
abbrev pub seeking : List Span → Outcome → World → Effect
seeking sought o w = record { sought = sought; reads = []; writes = []; outcome = o; output = []; world = w }

-- nothing is read, written or changed
abbrev pub still : Outcome → World → Effect
still o w = seeking [] o w

-- a value that changes nothing costs one
abbrev pub gives : ℕ → World → Effect
gives v w = still (Gives v 1) w

-- each further 64 bytes cost one
abbrev pub cost_of : ℕ → ℕ
cost_of n = 1 + n / 64

-- ---- input and output

-- the next byte of the input, or -1 at its end
abbrev pub next_of : List ℕ → ℕ
next_of [] = 2 ^ 32 - 1
next_of (b ∷ bs) = b

-- what is left of the input behind its next byte
abbrev pub rest_of : List ℕ → List ℕ
rest_of [] = []
rest_of (b ∷ bs) = bs

-- the next byte of the input is taken, and given
unfoldable pub do_getchar : World → Effect
do_getchar w = gives (next_of w.input) (record w { input = rest_of w.input })

-- the low byte is written, and given back
unfoldable pub do_putchar : ℕ → World → Effect
do_putchar c w = record { sought = []; reads = []; writes = []; outcome = Gives (c % 256) 1; output = c % 256 ∷ []; world = w }

-- how many bytes stand from an address to the end of this region, and another number where it is not in it
abbrev pub up_to : ℕ → ℕ → ℕ → ℕ → ℕ
up_to low high at other = if within low high at 1 then high - at else other

-- how many bytes stand from an address to the end of its region, and 0 where it is in none
abbrev pub room_of : Regions → ℕ → ℕ
room_of r at =
    up_to constants_start r.constants_end at
    (up_to (globals_start r) r.globals_end at (up_to heap_start heap_end at (up_to stack_start stack_end at 0)))

-- how many of n bytes stand in front of the first 0; all n where none of them is 0
abbrev pub text_length : (ℕ → ℕ) → ℕ → ℕ → ℕ
text_length byte at zero = 0
text_length byte at (suc n) = if byte at == 0 then 0 else suc (text_length byte (at + 1) n)

-- a text of l bytes, where its region has so much room: its bytes and a line feed are written. The 0 behind it is read too
abbrev pub put_text : ℕ → ℕ → ℕ → World → Effect
put_text room l at w =
    if l == room then seeking (span_of at room) (Traps BadAddress) w
    else record { sought = span_of at (l + 1); reads = []; writes = []; outcome = Gives 0 (cost_of l); output = read_bytes w.byte at l ++ 10 ∷ []; world = w }

-- the bytes up to the first 0; where that would stand behind the end of the first one's region, a trap
unfoldable pub do_puts : Regions → ℕ → World → Effect
do_puts r at w = put_text (room_of r at) (text_length w.byte at (room_of r at)) at w

-- ---- the heap

-- a block at a place
abbrev pub placed : Option ℕ → ℕ → World → World
placed None size w = w
placed (Some place) size w = record w { heap = set_block w.heap place (rounded size) }

-- a place, or null
abbrev pub place_or_null : Option ℕ → ℕ
place_or_null None = 0
place_or_null (Some place) = place

-- a new block for so many bytes, or null where none fits
unfoldable pub do_malloc : ℕ → World → Effect
do_malloc size w = gives (place_or_null (fit w.heap size)) (placed (fit w.heap size) size w)

-- bytes of 0 in a new block
abbrev pub cleared : Option ℕ → ℕ → World → Effect
cleared None size w = gives 0 w
cleared (Some place) size w = record {
  sought = [];
  reads = [];
  writes = span_of place size;
  outcome = Gives place (cost_of size);
  output = [];
  world = record { byte = written w.byte place (replicate size 0); heap = set_block w.heap place (rounded size); input = w.input };
}

-- a block for the exact product, which fits nowhere where that is 2 ^ 64 or more
unfoldable pub do_calloc : ℕ → ℕ → World → Effect
do_calloc count size w = cleared (fit w.heap (count * size)) (count * size) w

-- null is no block, and what is no live block's place is a bad free
unfoldable pub do_free : ℕ → World → Effect
do_free at w =
    if at == 0 then still (Does 1) w
    else (if size_at w.heap at == 0 then still (Traps BadFree) w
    else still (Does 1) (record w { heap = set_block w.heap at 0 }))

-- ---- memory

-- n bytes are written at an address, unless that is refused
abbrev pub put_bytes : Option Trap → List Span → ℕ → ℕ → List ℕ → World → Effect
put_bytes (Some trap) reads at n bytes w = still (Traps trap) w
put_bytes None reads at n bytes w =
    record { sought = []; reads = reads; writes = span_of at n; outcome = Does (cost_of n); output = []; world = record w { byte = written w.byte at bytes } }

-- the first refusal
abbrev pub first_refusal : Option Trap → Option Trap → Option Trap
first_refusal (Some trap) other = Some trap
first_refusal None other = other

-- n bytes are copied, as if through a buffer: what is read is what stood before; the bytes read are judged before those written
unfoldable pub do_move : Regions → ℕ → ℕ → ℕ → World → Effect
do_move r to from n w =
    if n == 0 then still (Does 1) w
    else put_bytes (first_refusal (refusal r false from n) (refusal r true to n)) (span_of from n) to n (read_bytes w.byte from n) w

-- the low byte is written n times
unfoldable pub do_set : Regions → ℕ → ℕ → ℕ → World → Effect
do_set r to value n w =
    if n == 0 then still (Does 1) w
    else put_bytes (refusal r true to n) [] to n (replicate n (value % 256)) w

-- ---- numbers of w bits

-- a value, where the numbers are of w bits
abbrev pub valued : Bool → ℕ → World → Effect
valued true v w = gives v w
valued false v w = still Stuck w

-- the widths of numbers whose bytes may be swapped
abbrev pub is_swapped_width : ℕ → Bool
is_swapped_width w = w == 16 || (w == 32 || w == 64)

-- the widths of numbers that may be compared
abbrev pub is_compared_width : ℕ → Bool
is_compared_width w = w == 8 || is_swapped_width w

-- two numbers of such a width
abbrev pub are_below : ℕ → ℕ → ℕ → Bool
are_below w a b = is_compared_width w && (nat_lt a (2 ^ w) && nat_lt b (2 ^ w))

-- the bytes in the other order
unfoldable pub do_swap : ℕ → ℕ → World → Effect
do_swap w a = valued (is_swapped_width w && nat_lt a (2 ^ w)) (swapped (w / 8) a)

-- the first of two numbers, or else the second
abbrev pub chosen : Bool → ℕ → ℕ → ℕ
chosen first a b = if first then a else b

-- the lower of two unsigned numbers
unfoldable pub do_umin : ℕ → ℕ → ℕ → World → Effect
do_umin w a b = valued (are_below w a b) (chosen (nat_le a b) a b)

-- the higher of two unsigned numbers
unfoldable pub do_umax : ℕ → ℕ → ℕ → World → Effect
do_umax w a b = valued (are_below w a b) (chosen (nat_le b a) a b)

-- the lower of two signed numbers
unfoldable pub do_smin : ℕ → ℕ → ℕ → World → Effect
do_smin w a b = valued (are_below w a b) (chosen (int_le (signed w a) (signed w b)) a b)

-- the higher of two signed numbers
unfoldable pub do_smax : ℕ → ℕ → ℕ → World → Effect
do_smax w a b = valued (are_below w a b) (chosen (int_le (signed w b) (signed w a)) a b)

-- ---- all of them

-- no arguments, for an external of none
abbrev pub with_none : List ℕ → (World → Effect) → World → Effect
with_none [] f w = f w
with_none _ f w = still Stuck w

-- just one argument, for an external of one
abbrev pub with_one : List ℕ → (ℕ → World → Effect) → World → Effect
with_one (a ∷ []) f w = f a w
with_one _ f w = still Stuck w

-- just two arguments, for an external of two
abbrev pub with_two : List ℕ → (ℕ → ℕ → World → Effect) → World → Effect
with_two (a ∷ b ∷ []) f w = f a b w
with_two _ f w = still Stuck w

-- two addresses or an address and a value, a length, and whether the access is volatile
abbrev pub with_four : List ℕ → (ℕ → ℕ → ℕ → World → Effect) → World → Effect
with_four (a ∷ b ∷ c ∷ d ∷ []) f w = f a b c w
with_four _ f w = still Stuck w

-- the run ends with the low 8 bits of the status
abbrev pub do_exit : ℕ → World → Effect
do_exit status w = still (Exits (status % 256)) w

-- the run ends by the trap `Abort`
abbrev pub do_abort : World → Effect
do_abort w = still (Traps Abort) w

-- an external and the numbers of its arguments, whatever is left of the budget. Those of a server's part that move the stack pointer or call are no case of this
abbrev pub do_external : Regions → External → List ℕ → World → Effect
do_external r external.GetChar args w = with_none args do_getchar w
do_external r external.PutChar args w = with_one args do_putchar w
do_external r external.Puts args w = with_one args (do_puts r) w
do_external r external.Malloc args w = with_one args do_malloc w
do_external r external.Calloc args w = with_two args do_calloc w
do_external r external.Free args w = with_one args do_free w
do_external r external.Exit args w = with_one args do_exit w
do_external r external.Abort args w = with_none args do_abort w
do_external r external.Move args w = with_four args (do_move r) w
do_external r external.Set args w = with_four args (do_set r) w
do_external r (external.Swap n) args w = with_one args (do_swap n) w
do_external r (external.UMin n) args w = with_two args (do_umin n) w
do_external r (external.UMax n) args w = with_two args (do_umax n) w
do_external r (external.SMin n) args w = with_two args (do_smin n) w
do_external r (external.SMax n) args w = with_two args (do_smax n) w
do_external r external.Hint args w = still (Does 1) w
do_external r external.Alloca args w = still Stuck w
do_external r external.Map args w = still Stuck w

-- getchar alone takes a byte of the input
abbrev pub is_getchar : External → Bool
is_getchar external.GetChar = true
is_getchar _ = false

-- ---- budgets

-- an end costs 1
abbrev pub cost_in : Outcome → ℕ
cost_in (Gives v cost) = cost
cost_in (Does cost) = cost
cost_in _ = 1

-- what costs more than is left is not finished, and changes nothing
abbrev pub bounded : ℕ → Effect → World → Effect
bounded left e w = if nat_lt left (cost_in e.outcome) then seeking e.sought Over w else e

-- with nothing left none is done, and nothing is read
abbrev pub external_effect : Regions → External → List ℕ → ℕ → World → Effect
external_effect r e args left w = if left == 0 then still Over w else bounded left (do_external r e args w) w
