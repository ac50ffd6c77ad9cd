-- The lowest of some pages that is absent.
use Rattle.std.proofs.Common.{◌≡◌, ℕ, suc, ◌+◌, Bool, true, false, Some, refl}
use Rattle.no_layout.specs.Memory.{first_absent}

pub first_held : (held : ℕ → Bool) (p m k : ℕ) → m ≡ suc k → held p ≡ true → first_absent held p m ≡ first_absent held (p + 1) k
first_held held p m k e h = rw (e, h) refl

pub first_gone : (held : ℕ → Bool) (p m k : ℕ) → m ≡ suc k → held p ≡ false → first_absent held p m ≡ Some p
first_gone held p m k e h = rw (e, h) refl
