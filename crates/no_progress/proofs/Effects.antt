-- What each external leaves, and that it has a meaning for arguments of its parameters' widths.
use Rattle.std.specs.Int.{bytes_low_first, byte_at}
use Rattle.std.proofs.Common.{◌≡◌, ℕ, zero, suc, ◌+◌, ◌*◌, ◌/◌, ◌%◌, ◌^◌, ◌<◌, ◌≤◌, ◌==◌, ◌||◌, ◌&&◌, nat_lt, nat_le, int_le, Bool, true, false, true≢false, eqb-true, Option, Some, None, if◌then◌else◌, List, [], ◌∷◌, ◌++◌, replicate, length, map, refl, sym, ap, subst, arith, pow_mono, pow_pos, pow-suc, mul-le-mul_right}
use Rattle.std.proofs.lemmas.Bool.{lt-ltb}
use Rattle.no_ir.specs.declared.types.Ty.{Ty}
use Rattle.no_ir.specs.declared.ending.Trap.{Trap}
use Rattle.no_ir.specs.declared.ending.Trap.TheVariants.{BadAddress, BadFree}
use Rattle.no_eval.specs.Numbers.{signed}
use Rattle.no_heap.specs.declared.block.Block.{Block}
use Rattle.no_heap.specs.Blocks.{AreLive, set_block, size_at}
use Rattle.no_heap.specs.Fit.{IsFit, fit, rounded}
use Rattle.no_heap.proofs.Gaps.{fit_is}
use Rattle.no_heap.proofs.Placing.{placed_live, freed_live}
use Rattle.no_layout.specs.Memory.{refusal, read_bytes}
use Rattle.no_layout.specs.Orders.{big_of, swapped}
use Rattle.no_layout.specs.declared.memory.Regions.{Regions}
use Rattle.no_module.specs.declared.external.External.{External}
use Rattle.no_module.specs.declared.external.External.TheVariants as external
use Rattle.no_module.specs.declared.scalar.Scalar.{Scalar}
use Rattle.no_module.specs.declared.scalar.Scalar.TheVariants as scalar
use Rattle.no_module.specs.Scalars.{is_void, takes}
use Rattle.no_semantics.specs.Externals.{World, Effect, Outcome, Gives, Does, Exits, Traps, Over, Stuck, still, seeking, gives, cost_of, next_of, rest_of, do_getchar, do_putchar, room_of, text_length, do_puts, placed, place_or_null, do_malloc, cleared, do_calloc, do_free, put_bytes, first_refusal, do_move, do_set, valued, is_swapped_width, is_compared_width, are_below, do_swap, chosen, do_umin, do_umax, do_smin, do_smax, do_exit, do_abort, with_none, with_one, with_two, with_four, do_external}
use Rattle.no_semantics.specs.Values.{Program}
use Rattle.no_progress.specs.Proper.{Each, bits}
use Rattle.no_progress.proofs.Reading.{AreBelow}
use Rattle.no_progress.proofs.Frames.{or2}
use Rattle.no_progress.proofs.Entering.{and_parts, param_widths}
use Rattle.no_progress.proofs.Stepping.{ValueFits}
use Rattle.no_heap.specs.declared.block.TheConstants.{HEAP_END}
use Rattle.no_semantics.specs.Spans.{Span, span_of}
use Rattle.no_progress.proofs.Externals.{scalar_width, given_bits, void_bits, taken_widths, IsExternal}
use Rattle.no_module.specs.Externals.{gives as gives'}

-- live blocks, and an input of bytes
abbrev pub WorldFits : World → Type 0
WorldFits w = AreLive w.heap × Each (λ (b : ℕ). b < 256) w.input

-- an outcome that gives what is waited for
abbrev pub OutcomeFits : Option ℕ → Outcome → World → Type 0
OutcomeFits given' (Gives v cost) w = ValueFits given' (Some v) × WorldFits w
OutcomeFits given' (Does cost) w = ValueFits given' None × WorldFits w
OutcomeFits given' (Exits c) w = Unit {0}
OutcomeFits given' (Traps t) w = Unit {0}
OutcomeFits given' Over w = Unit {0}
OutcomeFits given' Stuck w = ⊥

abbrev pub EffectFits : Option ℕ → Effect → Type 0
EffectFits given' e = OutcomeFits given' e.outcome e.world

-- ---- numbers

low_length : (i k n : ℕ) → length (bytes_low_first i k n) ≡ k
low_length i zero n = refl
low_length i (suc k) n = ap suc (low_length (suc i) k n)

byte_small : (i n : ℕ) → byte_at i n < 256
byte_small zero n = omega arith
byte_small (suc i) n = omega arith

big_small : (i k n : ℕ) → big_of (bytes_low_first i k n) < 256 ^ k
big_small i zero n = omega arith
big_small i (suc k) n =
    let rest : big_of (bytes_low_first (suc i) k n) < 256 ^ k = big_small (suc i) k n in
    let byte : byte_at i n ≤ 255 = let small : byte_at i n < 256 = byte_small i n in omega (arith, small) in
    let most : byte_at i n * 256 ^ k ≤ 255 * 256 ^ k = mul-le-mul_right (256 ^ k) byte in
    let power : 256 ^ suc k ≡ 256 ^ k * 256 = pow-suc 256 k in
    let here : byte_at i n * 256 ^ k + big_of (bytes_low_first (suc i) k n) < 256 ^ suc k = omega (arith, rest, most, power) in
    subst (λ (m : ℕ). byte_at i n * 256 ^ m + big_of (bytes_low_first (suc i) k n) < 256 ^ suc k) (sym (low_length (suc i) k n)) here

swapped_small : (w n : ℕ) → is_swapped_width w ≡ true → swapped (w / 8) n < 2 ^ w
swapped_small w n e = or2 (w == 16) (w == 32 || w == 64) e
    (λ h. subst (λ (x : ℕ). swapped (x / 8) n < 2 ^ x) (sym (eqb-true w 16 h)) (big_small 0 2 n))
    (λ h. or2 (w == 32) (w == 64) h
    (λ j. subst (λ (x : ℕ). swapped (x / 8) n < 2 ^ x) (sym (eqb-true w 32 j)) (big_small 0 4 n))
    (λ j. subst (λ (x : ℕ). swapped (x / 8) n < 2 ^ x) (sym (eqb-true w 64 j)) (big_small 0 8 n)))

chosen_small : (first : Bool) (w a b : ℕ) → a < 2 ^ w → b < 2 ^ w → chosen first a b < 2 ^ w
chosen_small true w a b f g = f
chosen_small false w a b f g = g

valued_fits : (w v : ℕ) (b : Bool) (s : World) → b ≡ true → v < 2 ^ w → WorldFits s → EffectFits (Some w) (valued b v s)
valued_fits w v true s e small fits = (small, fits)
valued_fits w v false s e small fits = absurd (true≢false (sym e))

and_true : (a b : Bool) → a ≡ true → b ≡ true → (a && b) ≡ true
and_true true b e f = f
and_true false b e f = absurd (true≢false (sym e))

are_small : (w a b : ℕ) → is_compared_width w ≡ true → a < 2 ^ w → b < 2 ^ w → are_below w a b ≡ true
are_small w a b e f g = and_true (is_compared_width w) (nat_lt a (2 ^ w) && nat_lt b (2 ^ w)) e (and_true (nat_lt a (2 ^ w)) (nat_lt b (2 ^ w)) (lt-ltb a (2 ^ w) f) (lt-ltb b (2 ^ w) g))

-- ---- the heap

wide : (w n : ℕ) → 32 ≤ w → n < 2 ^ 32 → n < 2 ^ w
wide w n le small = let big : 2 ^ 32 ≤ 2 ^ w = pow_mono le in omega (arith, small, big)

place_small : (bs : List Block) (size place : ℕ) → AreLive bs → fit bs size ≡ Some place → place < 2 ^ 32
place_small bs size place live e =
    let is : IsFit bs size (Some place) = subst (λ (o : Option ℕ). IsFit bs size o) e (fit_is bs size live) in
    let below : place + rounded size ≤ HEAP_END = is.1.below in
    omega (arith, below)

module _ (l : ℕ) (wide_enough : 32 ≤ l) (s : World) (fits : WorldFits s) where
  given_fits : (w v : ℕ) → v < 2 ^ w → EffectFits (Some w) (gives v s)
  given_fits w v small = (small, fits)

  pub getchar_fits : EffectFits (Some 32) (do_getchar s)
  unfolding do_getchar
  getchar_fits = by_input s.input fits.1
    where
      by_input : (bs : List ℕ) → Each (λ (b : ℕ). b < 256) bs → (next_of bs < 2 ^ 32) × (AreLive s.heap × Each (λ (b : ℕ). b < 256) (rest_of bs))
      by_input [] each = (omega arith, (fits.0, tt))
      by_input (b ∷ bs) each = (let small : b < 256 = each.0 in omega (arith, small), (fits.0, each.1))

  pub putchar_fits : (c : ℕ) → EffectFits (Some 32) (do_putchar c s)
  unfolding do_putchar
  putchar_fits c = (omega arith, fits)

  pub puts_fits : (r : Regions) (at : ℕ) → EffectFits (Some 32) (do_puts r at s)
  unfolding do_puts
  puts_fits r at = by_length (text_length s.byte at (room_of r at) == room_of r at)
    where
      by_length : (b : Bool) → EffectFits (Some 32) (if b then seeking (span_of at (room_of r at)) (Traps BadAddress) s
          else record { sought = span_of at (text_length s.byte at (room_of r at) + 1); reads = []; writes = []; outcome = Gives 0 (cost_of (text_length s.byte at (room_of r at))); output = read_bytes s.byte at (text_length s.byte at (room_of r at)) ++ 10 ∷ []; world = s })
      by_length true = tt
      by_length false = (omega arith, fits)

  pub malloc_fits : (size : ℕ) → EffectFits (Some l) (do_malloc size s)
  unfolding do_malloc
  malloc_fits size = by_fit (fit s.heap size) refl
    where
      by_fit : (o : Option ℕ) → fit s.heap size ≡ o → EffectFits (Some l) (gives (place_or_null o) (placed o size s))
      by_fit None e = (pow_pos l, fits)
      by_fit (Some place) e = (wide l place wide_enough (place_small s.heap size place fits.0 e), (placed_live s.heap size place fits.0 e, fits.1))

  pub calloc_fits : (count size : ℕ) → EffectFits (Some l) (do_calloc count size s)
  unfolding do_calloc
  calloc_fits count size = by_fit (fit s.heap (count * size)) refl
    where
      by_fit : (o : Option ℕ) → fit s.heap (count * size) ≡ o → EffectFits (Some l) (cleared o (count * size) s)
      by_fit None e = (pow_pos l, fits)
      by_fit (Some place) e = (wide l place wide_enough (place_small s.heap (count * size) place fits.0 e), (placed_live s.heap (count * size) place fits.0 e, fits.1))

  pub free_fits : (at : ℕ) → EffectFits None (do_free at s)
  unfolding do_free
  free_fits at = by_null (at == 0) (size_at s.heap at == 0)
    where
      by_null : (b c : Bool) → EffectFits None (if b then still (Does 1) s else (if c then still (Traps BadFree) s else still (Does 1) (record s { heap = set_block s.heap at 0 })))
      by_null true c = (tt, fits)
      by_null false true = tt
      by_null false false = (tt, (freed_live s.heap at fits.0, fits.1))

  put_fits : (o : Option Trap) (reads : List Span) (at n : ℕ) (bytes : List ℕ) → EffectFits None (put_bytes o reads at n bytes s)
  put_fits (Some t) reads at n bytes = tt
  put_fits None reads at n bytes = (tt, fits)

  nothing_or : (b : Bool) (e : Effect) → EffectFits None e → EffectFits None (if b then still (Does 1) s else e)
  nothing_or true e f = (tt, fits)
  nothing_or false e f = f

  pub move_fits : (r : Regions) (to from n : ℕ) → EffectFits None (do_move r to from n s)
  unfolding do_move
  move_fits r to from n = nothing_or (n == 0) (put_bytes (first_refusal (refusal r false from n) (refusal r true to n)) (span_of from n) to n (read_bytes s.byte from n) s)
      (put_fits (first_refusal (refusal r false from n) (refusal r true to n)) (span_of from n) to n (read_bytes s.byte from n))

  pub set_fits : (r : Regions) (to value n : ℕ) → EffectFits None (do_set r to value n s)
  unfolding do_set
  set_fits r to value n = nothing_or (n == 0) (put_bytes (refusal r true to n) [] to n (replicate n (value % 256)) s) (put_fits (refusal r true to n) [] to n (replicate n (value % 256)))

  pub swap_fits : (w a : ℕ) → is_swapped_width w ≡ true → a < 2 ^ w → EffectFits (Some w) (do_swap w a s)
  unfolding do_swap
  swap_fits w a e small = valued_fits w (swapped (w / 8) a) (is_swapped_width w && nat_lt a (2 ^ w)) s (and_true (is_swapped_width w) (nat_lt a (2 ^ w)) e (lt-ltb a (2 ^ w) small)) (swapped_small w a e) fits

  pub umin_fits : (w a b : ℕ) → is_compared_width w ≡ true → a < 2 ^ w → b < 2 ^ w → EffectFits (Some w) (do_umin w a b s)
  unfolding do_umin
  umin_fits w a b e f g = valued_fits w (chosen (nat_le a b) a b) (are_below w a b) s (are_small w a b e f g) (chosen_small (nat_le a b) w a b f g) fits

  pub umax_fits : (w a b : ℕ) → is_compared_width w ≡ true → a < 2 ^ w → b < 2 ^ w → EffectFits (Some w) (do_umax w a b s)
  unfolding do_umax
  umax_fits w a b e f g = valued_fits w (chosen (nat_le b a) a b) (are_below w a b) s (are_small w a b e f g) (chosen_small (nat_le b a) w a b f g) fits

  pub smin_fits : (w a b : ℕ) → is_compared_width w ≡ true → a < 2 ^ w → b < 2 ^ w → EffectFits (Some w) (do_smin w a b s)
  unfolding do_smin
  smin_fits w a b e f g = valued_fits w (chosen (int_le (signed w a) (signed w b)) a b) (are_below w a b) s (are_small w a b e f g) (chosen_small (int_le (signed w a) (signed w b)) w a b f g) fits

  pub smax_fits : (w a b : ℕ) → is_compared_width w ≡ true → a < 2 ^ w → b < 2 ^ w → EffectFits (Some w) (do_smax w a b s)
  unfolding do_smax
  smax_fits w a b e f g = valued_fits w (chosen (int_le (signed w b) (signed w a)) a b) (are_below w a b) s (are_small w a b e f g) (chosen_small (int_le (signed w b) (signed w a)) w a b f g) fits

-- ---- all of them

-- the arguments of each, by their widths
one_of : (w : ℕ) (given' : Option ℕ) (ns : List ℕ) (f : ℕ → World → Effect) (s : World) → AreBelow ns (w ∷ []) → ((n : ℕ) → n < 2 ^ w → EffectFits given' (f n s)) → EffectFits given' (with_one ns f s)
one_of w given' [] f s small h = absurd small
one_of w given' (n ∷ []) f s small h = h n small.0
one_of w given' (n ∷ m ∷ ns) f s small h = absurd small.1

none_of : (given' : Option ℕ) (ns : List ℕ) (f : World → Effect) (s : World) → AreBelow ns [] → EffectFits given' (f s) → EffectFits given' (with_none ns f s)
none_of given' [] f s small h = h
none_of given' (n ∷ ns) f s small h = absurd small

two_of : (w v : ℕ) (given' : Option ℕ) (ns : List ℕ) (f : ℕ → ℕ → World → Effect) (s : World) → AreBelow ns (w ∷ v ∷ []) → ((n m : ℕ) → n < 2 ^ w → m < 2 ^ v → EffectFits given' (f n m s)) → EffectFits given' (with_two ns f s)
two_of w v given' [] f s small h = absurd small
two_of w v given' (n ∷ []) f s small h = absurd small.1
two_of w v given' (n ∷ m ∷ []) f s small h = h n m small.0 small.1.0
two_of w v given' (n ∷ m ∷ k ∷ ns) f s small h = absurd small.1.1

four_of : (w v u t : ℕ) (given' : Option ℕ) (ns : List ℕ) (f : ℕ → ℕ → ℕ → World → Effect) (s : World) → AreBelow ns (w ∷ v ∷ u ∷ t ∷ []) → ((n m k : ℕ) → EffectFits given' (f n m k s)) → EffectFits given' (with_four ns f s)
four_of w v u t given' [] f s small h = absurd small
four_of w v u t given' (n ∷ []) f s small h = absurd small.1
four_of w v u t given' (n ∷ m ∷ []) f s small h = absurd small.1.1
four_of w v u t given' (n ∷ m ∷ k ∷ []) f s small h = absurd small.1.1.1
four_of w v u t given' (n ∷ m ∷ k ∷ j ∷ []) f s small h = h n m k
four_of w v u t given' (n ∷ m ∷ k ∷ j ∷ i ∷ ns) f s small h = absurd small.1.1.1.1

-- what a call gives and the widths of its arguments, as its type has them
record Typed (p : Program) (t : Ty) (ps : List (ℕ × Ty)) (given' : Option ℕ) (ws : List ℕ) : Type 0 where
  gives_it : bits p t ≡ given'
  widths : param_widths p ps ≡ ws

value_typed : (p : Program) (s : Scalar) (ss : List Scalar) (t : Ty) (ps : List (ℕ × Ty)) → (gives' s t && takes ss ps) ≡ true → Typed p t ps (Some (scalar_width p.layout s)) (map (scalar_width p.layout) ss)
value_typed p s ss t ps e = let parts = and_parts (gives' s t) (takes ss ps) e in record { gives_it = given_bits p s t parts.0; widths = taken_widths p ss ps parts.1 }

void_typed : (p : Program) (ss : List Scalar) (t : Ty) (ps : List (ℕ × Ty)) → (is_void t && takes ss ps) ≡ true → Typed p t ps None (map (scalar_width p.layout) ss)
void_typed p ss t ps e = let parts = and_parts (is_void t) (takes ss ps) e in record { gives_it = void_bits p t parts.0; widths = taken_widths p ss ps parts.1 }

-- the one or the other way to state a size
sized_typed : (p : Program) (ss us : List Scalar) (t : Ty) (ps : List (ℕ × Ty)) (P : Type 0) → (gives' scalar.Ptr t && (takes ss ps || takes us ps)) ≡ true
    → (Typed p t ps (Some p.layout.pointer) (map (scalar_width p.layout) ss) → P) → (Typed p t ps (Some p.layout.pointer) (map (scalar_width p.layout) us) → P) → P
sized_typed p ss us t ps P e f g =
    let parts = and_parts (gives' scalar.Ptr t) (takes ss ps || takes us ps) e in
    or2 (takes ss ps) (takes us ps) parts.1
    (λ h. f (record { gives_it = given_bits p scalar.Ptr t parts.0; widths = taken_widths p ss ps h }))
    (λ h. g (record { gives_it = given_bits p scalar.Ptr t parts.0; widths = taken_widths p us ps h }))

-- an external of no server's part alone
abbrev pub is_plain : External → Bool
is_plain external.Alloca = false
is_plain external.Map = false
is_plain _ = true

module _ (p : Program) (pointer : 32 ≤ p.layout.pointer) (t : Ty) (ps : List (ℕ × Ty)) (ns : List ℕ) (small : AreBelow ns (param_widths p ps)) (s : World) (fits : WorldFits s) where
  finish : (given' : Option ℕ) (ws : List ℕ) (e : Effect) → Typed p t ps given' ws → (AreBelow ns ws → EffectFits given' e) → EffectFits (bits p t) e
  finish given' ws e typed f = subst (λ (g : Option ℕ). EffectFits g e) (sym typed.gives_it) (f (subst (AreBelow ns) typed.widths small))

  pub external_fits : (r : Regions) (e : External) → is_plain e ≡ true → IsExternal e t ps → EffectFits (bits p t) (do_external r e ns s)
  external_fits r external.GetChar is x = finish (Some 32) [] (with_none ns do_getchar s) (value_typed p (scalar.Int 32) [] t ps x.typed) (λ b. none_of (Some 32) ns do_getchar s b (getchar_fits p.layout.pointer pointer s fits))
  external_fits r external.PutChar is x = finish (Some 32) (32 ∷ []) (with_one ns do_putchar s) (value_typed p (scalar.Int 32) (scalar.Int 32 ∷ []) t ps x.typed) (λ b. one_of 32 (Some 32) ns do_putchar s b (λ n lt. putchar_fits p.layout.pointer pointer s fits n))
  external_fits r external.Puts is x = finish (Some 32) (p.layout.pointer ∷ []) (with_one ns (do_puts r) s) (value_typed p (scalar.Int 32) (scalar.Ptr ∷ []) t ps x.typed) (λ b. one_of p.layout.pointer (Some 32) ns (do_puts r) s b (λ n lt. puts_fits p.layout.pointer pointer s fits r n))
  external_fits r external.Malloc is x = sized_typed p (scalar.Int 32 ∷ []) (scalar.Int 64 ∷ []) t ps (EffectFits (bits p t) (with_one ns do_malloc s)) x.typed
      (λ y. finish (Some p.layout.pointer) (32 ∷ []) (with_one ns do_malloc s) y (λ b. one_of 32 (Some p.layout.pointer) ns do_malloc s b (λ n lt. malloc_fits p.layout.pointer pointer s fits n)))
      (λ y. finish (Some p.layout.pointer) (64 ∷ []) (with_one ns do_malloc s) y (λ b. one_of 64 (Some p.layout.pointer) ns do_malloc s b (λ n lt. malloc_fits p.layout.pointer pointer s fits n)))
  external_fits r external.Calloc is x = sized_typed p (scalar.Int 32 ∷ scalar.Int 32 ∷ []) (scalar.Int 64 ∷ scalar.Int 64 ∷ []) t ps (EffectFits (bits p t) (with_two ns do_calloc s)) x.typed
      (λ y. finish (Some p.layout.pointer) (32 ∷ 32 ∷ []) (with_two ns do_calloc s) y (λ b. two_of 32 32 (Some p.layout.pointer) ns do_calloc s b (λ n m f g. calloc_fits p.layout.pointer pointer s fits n m)))
      (λ y. finish (Some p.layout.pointer) (64 ∷ 64 ∷ []) (with_two ns do_calloc s) y (λ b. two_of 64 64 (Some p.layout.pointer) ns do_calloc s b (λ n m f g. calloc_fits p.layout.pointer pointer s fits n m)))
  external_fits r external.Free is x = finish None (p.layout.pointer ∷ []) (with_one ns do_free s) (void_typed p (scalar.Ptr ∷ []) t ps x.typed) (λ b. one_of p.layout.pointer None ns do_free s b (λ n lt. free_fits p.layout.pointer pointer s fits n))
  external_fits r external.Exit is x = finish None (32 ∷ []) (with_one ns do_exit s) (void_typed p (scalar.Int 32 ∷ []) t ps x.typed) (λ b. one_of 32 None ns do_exit s b (λ n lt. tt))
  external_fits r external.Abort is x = finish None [] (with_none ns do_abort s) (void_typed p [] t ps x.typed) (λ b. none_of None ns do_abort s b tt)
  external_fits r external.Move is x = finish None (p.layout.pointer ∷ p.layout.pointer ∷ x.size ∷ 1 ∷ []) (with_four ns (do_move r) s) (void_typed p (scalar.Ptr ∷ scalar.Ptr ∷ scalar.Int x.size ∷ scalar.Int 1 ∷ []) t ps x.typed)
      (λ b. four_of p.layout.pointer p.layout.pointer x.size 1 None ns (do_move r) s b (λ n m k. move_fits p.layout.pointer pointer s fits r n m k))
  external_fits r external.Set is x = finish None (p.layout.pointer ∷ 8 ∷ x.size ∷ 1 ∷ []) (with_four ns (do_set r) s) (void_typed p (scalar.Ptr ∷ scalar.Int 8 ∷ scalar.Int x.size ∷ scalar.Int 1 ∷ []) t ps x.typed)
      (λ b. four_of p.layout.pointer 8 x.size 1 None ns (do_set r) s b (λ n m k. set_fits p.layout.pointer pointer s fits r n m k))
  external_fits r (external.Swap w) is x = finish (Some w) (w ∷ []) (with_one ns (do_swap w) s) (value_typed p (scalar.Int w) (scalar.Int w ∷ []) t ps x.typed) (λ b. one_of w (Some w) ns (do_swap w) s b (λ n lt. swap_fits p.layout.pointer pointer s fits w n x.width lt))
  external_fits r (external.UMin w) is x = finish (Some w) (w ∷ w ∷ []) (with_two ns (do_umin w) s) (value_typed p (scalar.Int w) (scalar.Int w ∷ scalar.Int w ∷ []) t ps x.typed) (λ b. two_of w w (Some w) ns (do_umin w) s b (λ n m f g. umin_fits p.layout.pointer pointer s fits w n m x.width f g))
  external_fits r (external.UMax w) is x = finish (Some w) (w ∷ w ∷ []) (with_two ns (do_umax w) s) (value_typed p (scalar.Int w) (scalar.Int w ∷ scalar.Int w ∷ []) t ps x.typed) (λ b. two_of w w (Some w) ns (do_umax w) s b (λ n m f g. umax_fits p.layout.pointer pointer s fits w n m x.width f g))
  external_fits r (external.SMin w) is x = finish (Some w) (w ∷ w ∷ []) (with_two ns (do_smin w) s) (value_typed p (scalar.Int w) (scalar.Int w ∷ scalar.Int w ∷ []) t ps x.typed) (λ b. two_of w w (Some w) ns (do_smin w) s b (λ n m f g. smin_fits p.layout.pointer pointer s fits w n m x.width f g))
  external_fits r (external.SMax w) is x = finish (Some w) (w ∷ w ∷ []) (with_two ns (do_smax w) s) (value_typed p (scalar.Int w) (scalar.Int w ∷ scalar.Int w ∷ []) t ps x.typed) (λ b. two_of w w (Some w) ns (do_smax w) s b (λ n m f g. smax_fits p.layout.pointer pointer s fits w n m x.width f g))
  external_fits r external.Hint is x = subst (λ (g : Option ℕ). EffectFits g (still (Does 1) s)) (sym (void_bits p t x.typed)) (tt, fits)
  external_fits r external.Alloca is x = absurd (true≢false (sym is))
  external_fits r external.Map is x = absurd (true≢false (sym is))
