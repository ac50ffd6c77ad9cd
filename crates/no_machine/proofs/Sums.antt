-- Sums modulo a power of two.
use Rattle.std.proofs.Common.{◌≡◌, ℕ, ◌+◌, ◌-◌, ◌%◌, ◌^◌, ◌≤◌, sym, ap, ◌∙◌, arith}
use Rattle.std.proofs.Math.Pow.{mod-mod-pow}

pub narrowed_twice : (n w : ℕ) → w ≤ 64 → n % 2 ^ 64 % 2 ^ w ≡ n % 2 ^ w
narrowed_twice n w most = let e : 64 - w + w ≡ 64 = omega arith in ap (λ (k : ℕ). n % 2 ^ k % 2 ^ w) (sym e) ∙ mod-mod-pow n (64 - w) w
