-- What the externals on numbers of w bits give, where they give anything.
use Rattle.std.specs.Prelude.{◌≡◌, ℕ, ◌/◌, ◌^◌, ◌<◌, ◌≤◌, Bool, true, false, ◌&&◌, nat_lt, Option, Some, None}
use Rattle.no_ir.specs.declared.instruction.Pred.{Pred}
use Rattle.no_eval.specs.Compare.{compare_of}
use Rattle.no_layout.specs.Orders.{swapped}
use Rattle.no_semantics.specs.Externals.{are_below, chosen, is_compared_width, is_swapped_width}

-- the bytes of a number in the other order, where it has 16, 32 or 64 bits
abbrev pub IsSwap : ℕ → ℕ → Option ℕ → Type 0
IsSwap w a (Some v) = ((is_swapped_width w && nat_lt a (2 ^ w)) ≡ true) × (v ≡ swapped (w / 8) a)
IsSwap w a None = (is_swapped_width w && nat_lt a (2 ^ w)) ≡ false

-- a number has w bits, which numbers may be compared by
pub record HasBits (w n : ℕ) : Type 0 where
  pub known : is_compared_width w ≡ true
  pub below : n < 2 ^ w
  pub some : 0 < w
  pub most : w ≤ 64

-- a number doesn't have w bits, or numbers of w bits may not be compared
abbrev pub Lacks : ℕ → ℕ → Type 0
Lacks w n = (is_compared_width w && nat_lt n (2 ^ w)) ≡ false

-- the first of two numbers where a comparison holds of them, and else the second
abbrev pub IsPick : Pred → ℕ → ℕ → ℕ → Option ℕ → Type 0
IsPick p w a b (Some v) = (are_below w a b ≡ true) × (v ≡ chosen (compare_of p w a b) a b)
IsPick p w a b None = are_below w a b ≡ false
