-- Numbers of w bits: bytes swapped, the lower and the higher of two.
use Rattle.std.proofs.Common.{◌≡◌, ℕ, ◌+◌, ◌*◌, ◌/◌, ◌^◌, ◌<◌, ◌≤◌, ◌==◌, Bool, true, false, ◌&&◌, ◌||◌, nat_lt, nat_le, if◌then◌else◌, Option, Some, None, refl, sym, ap, subst, ◌∙◌, arith}
use Rattle.std.proofs.lemmas.Bool.{lt-ltb, le-ltb, ne_eqb, cond-true, cond-false}
use Rattle.no_ir.specs.declared.instruction.Pred.{Pred}
use Rattle.no_ir.specs.declared.instruction.Pred.TheVariants as pred
use Rattle.no_module.specs.declared.external.External.{External}
use Rattle.no_module.specs.declared.external.External.TheVariants as external
use Rattle.no_eval.specs.Compare.{compare_of}
use Rattle.no_layout.specs.declared.width.Width.{Width}
use Rattle.no_layout.specs.declared.width.Width.TheVariants.{One, Two, Four, Eight}
use Rattle.no_layout.specs.Width.{width_of}
use Rattle.no_layout.specs.Orders.{swapped}
use Rattle.no_semantics.specs.Externals.{World, Effect, Stuck, are_below, bounded, chosen, is_compared_width, is_swapped_width, gives, still, valued, with_one, with_two, do_swap, do_umin, do_umax, do_smin, do_smax}
use Rattle.no_lib.specs.declared.answer.LibAnswer.TheVariants as told
use Rattle.no_lib.specs.Answers.{Seen, Means}
use Rattle.no_lib.specs.Picked.{HasBits, IsPick, IsSwap, Lacks}
use Rattle.no_lib.proofs.Told.{plain_means, stuck_means, of_one, of_two}

both : (x y : Bool) → x ≡ true → y ≡ true → (x && y) ≡ true
both true y e f = f
both false y e f = e

neither : (x y : Bool) → y ≡ false → (x && y) ≡ false
neither true y e = e
neither false y e = refl

no_first : (x y : Bool) → x ≡ false → (x && y) ≡ false
no_first true y e = absurd cc
no_first false y e = refl

-- ---- swapped

pub swap_16 : (w a v : ℕ) → w ≡ 16 → a < 65536 → v ≡ swapped 2 a → IsSwap w a (Some v)
swap_16 w a v e h is = subst (λ (k : ℕ). IsSwap k a (Some v)) (sym e) (lt-ltb a 65536 h, is)

pub swap_32 : (w a v : ℕ) → w ≡ 32 → a < 4294967296 → v ≡ swapped 4 a → IsSwap w a (Some v)
swap_32 w a v e h is = subst (λ (k : ℕ). IsSwap k a (Some v)) (sym e) (lt-ltb a 4294967296 h, is)

pub swap_64 : (w a v : ℕ) → w ≡ 64 → a < 18446744073709551616 → v ≡ swapped 8 a → IsSwap w a (Some v)
swap_64 w a v e h is = subst (λ (k : ℕ). IsSwap k a (Some v)) (sym e) (lt-ltb a 18446744073709551616 h, is)

pub no_swap_16 : (w a : ℕ) → w ≡ 16 → 65536 ≤ a → IsSwap w a None
no_swap_16 w a e h = subst (λ (k : ℕ). IsSwap k a None) (sym e) (le-ltb a 65536 h)

pub no_swap_32 : (w a : ℕ) → w ≡ 32 → 4294967296 ≤ a → IsSwap w a None
no_swap_32 w a e h = subst (λ (k : ℕ). IsSwap k a None) (sym e) (le-ltb a 4294967296 h)

pub no_swap_width : (w a : ℕ) → (w ≡ 16 → ⊥) → (w ≡ 32 → ⊥) → (w ≡ 64 → ⊥) → IsSwap w a None
no_swap_width w a x y z = no_first (is_swapped_width w) (nat_lt a (2 ^ w)) (ap (λ (b : Bool). b || (w == 32 || w == 64)) (ne_eqb w 16 x) ∙ ap (λ (b : Bool). b || w == 64) (ne_eqb w 32 y) ∙ ne_eqb w 64 z)

pub swap_means : (width a v left : ℕ) (s : Seen) → 0 < left → IsSwap width a (Some v) → Means (external.Swap width) (λ w. bounded left (do_swap width a w) w) (told.Value v 1) s s
unfolding do_swap
swap_means width a v left s some is = plain_means (external.Swap width) v (do_swap width a) left s some (λ w. ap (λ (b : Bool). valued b (swapped (width / 8) a) w) is.0 ∙ ap (λ (k : ℕ). gives k w) (sym is.1))

pub no_swap_means : (width a left : ℕ) (s : Seen) → 0 < left → IsSwap width a None → Means (external.Swap width) (λ w. bounded left (do_swap width a w) w) told.Stuck s s
unfolding do_swap
no_swap_means width a left s some is = stuck_means (external.Swap width) (do_swap width a) left s some (λ w. ap (λ (b : Bool). valued b (swapped (width / 8) a) w) is)

-- ---- of w bits

pub bits_8 : (w n : ℕ) → w ≡ 8 → n < 256 → HasBits w n
bits_8 w n e h = subst (λ (k : ℕ). HasBits k n) (sym e) (record { known = refl; below = h; some = omega arith; most = omega arith })

pub bits_16 : (w n : ℕ) → w ≡ 16 → n < 65536 → HasBits w n
bits_16 w n e h = subst (λ (k : ℕ). HasBits k n) (sym e) (record { known = refl; below = h; some = omega arith; most = omega arith })

pub bits_32 : (w n : ℕ) → w ≡ 32 → n < 4294967296 → HasBits w n
bits_32 w n e h = subst (λ (k : ℕ). HasBits k n) (sym e) (record { known = refl; below = h; some = omega arith; most = omega arith })

pub bits_64 : (w n : ℕ) → w ≡ 64 → n < 18446744073709551616 → HasBits w n
bits_64 w n e h = subst (λ (k : ℕ). HasBits k n) (sym e) (record { known = refl; below = h; some = omega arith; most = omega arith })

pub lacks_8 : (w n : ℕ) → w ≡ 8 → 256 ≤ n → Lacks w n
lacks_8 w n e h = subst (λ (k : ℕ). Lacks k n) (sym e) (le-ltb n 256 h)

pub lacks_16 : (w n : ℕ) → w ≡ 16 → 65536 ≤ n → Lacks w n
lacks_16 w n e h = subst (λ (k : ℕ). Lacks k n) (sym e) (le-ltb n 65536 h)

pub lacks_32 : (w n : ℕ) → w ≡ 32 → 4294967296 ≤ n → Lacks w n
lacks_32 w n e h = subst (λ (k : ℕ). Lacks k n) (sym e) (le-ltb n 4294967296 h)

pub lacks_width : (w n : ℕ) → (w ≡ 8 → ⊥) → (w ≡ 16 → ⊥) → (w ≡ 32 → ⊥) → (w ≡ 64 → ⊥) → Lacks w n
lacks_width w n u x y z = no_first (is_compared_width w) (nat_lt n (2 ^ w)) (ap (λ (b : Bool). b || (w == 16 || (w == 32 || w == 64))) (ne_eqb w 8 u) ∙ ap (λ (b : Bool). b || (w == 32 || w == 64)) (ne_eqb w 16 x) ∙ ap (λ (b : Bool). b || w == 64) (ne_eqb w 32 y) ∙ ne_eqb w 64 z)

left_lacks : (c x y : Bool) → (c && x) ≡ false → (c && (x && y)) ≡ false
left_lacks true true y e = absurd cc
left_lacks true false y e = refl
left_lacks false x y e = refl

right_lacks : (c x y : Bool) → (c && y) ≡ false → (c && (x && y)) ≡ false
right_lacks true true y e = e
right_lacks true false y e = refl
right_lacks false x y e = refl

pub picks_none_left : (p : Pred) (w a b : ℕ) → Lacks w a → IsPick p w a b None
picks_none_left p w a b e = left_lacks (is_compared_width w) (nat_lt a (2 ^ w)) (nat_lt b (2 ^ w)) e

pub picks_none_right : (p : Pred) (w a b : ℕ) → Lacks w b → IsPick p w a b None
picks_none_right p w a b e = right_lacks (is_compared_width w) (nat_lt a (2 ^ w)) (nat_lt b (2 ^ w)) e

pub picks_first : (p : Pred) (w a b : ℕ) → HasBits w a → HasBits w b → compare_of p w a b ≡ true → IsPick p w a b (Some a)
picks_first p w a b x y e = (both (is_compared_width w) (nat_lt a (2 ^ w) && nat_lt b (2 ^ w)) x.known (both (nat_lt a (2 ^ w)) (nat_lt b (2 ^ w)) (lt-ltb a (2 ^ w) x.below) (lt-ltb b (2 ^ w) y.below)), sym (cond-true (compare_of p w a b) a b e))

pub picks_second : (p : Pred) (w a b : ℕ) → HasBits w a → HasBits w b → compare_of p w a b ≡ false → IsPick p w a b (Some b)
picks_second p w a b x y e = (both (is_compared_width w) (nat_lt a (2 ^ w) && nat_lt b (2 ^ w)) x.known (both (nat_lt a (2 ^ w)) (nat_lt b (2 ^ w)) (lt-ltb a (2 ^ w) x.below) (lt-ltb b (2 ^ w) y.below)), sym (cond-false (compare_of p w a b) a b e))

-- what an external of two numbers gives, where it is that pick
pub pick_means : (which : External) (f : ℕ → ℕ → World → Effect) (p : Pred) (width a b v left : ℕ) (s : Seen) → 0 < left → ((w : World) → f a b w ≡ valued (are_below width a b) (chosen (compare_of p width a b) a b) w) → IsPick p width a b (Some v) → Means which (λ w. bounded left (f a b w) w) (told.Value v 1) s s
pick_means which f p width a b v left s some says is = plain_means which v (f a b) left s some (λ w. says w ∙ ap (λ (t : Bool). valued t (chosen (compare_of p width a b) a b) w) is.0 ∙ ap (λ (k : ℕ). gives k w) (sym is.1))

pub no_pick_means : (which : External) (f : ℕ → ℕ → World → Effect) (p : Pred) (width a b left : ℕ) (s : Seen) → 0 < left → ((w : World) → f a b w ≡ valued (are_below width a b) (chosen (compare_of p width a b) a b) w) → IsPick p width a b None → Means which (λ w. bounded left (f a b w) w) told.Stuck s s
no_pick_means which f p width a b left s some says is = stuck_means which (f a b) left s some (λ w. says w ∙ ap (λ (t : Bool). valued t (chosen (compare_of p width a b) a b) w) is)

pub umin_is : (width a b : ℕ) (w : World) → do_umin width a b w ≡ valued (are_below width a b) (chosen (compare_of pred.Ule width a b) a b) w
unfolding do_umin
umin_is width a b w = refl

pub umax_is : (width a b : ℕ) (w : World) → do_umax width a b w ≡ valued (are_below width a b) (chosen (compare_of pred.Uge width a b) a b) w
unfolding do_umax
umax_is width a b w = refl

pub smin_is : (width a b : ℕ) (w : World) → do_smin width a b w ≡ valued (are_below width a b) (chosen (compare_of pred.Sle width a b) a b) w
unfolding do_smin
smin_is width a b w = refl

pub smax_is : (width a b : ℕ) (w : World) → do_smax width a b w ≡ valued (are_below width a b) (chosen (compare_of pred.Sge width a b) a b) w
unfolding do_smax
smax_is width a b w = refl
