-- Flags by their places, and how many of them are set.
use Rattle.std.proofs.Common.{◌≡◌, ℕ, suc, zero, ◌<◌, ◌≤◌, Bool, true, false, List, [], ◌∷◌, length, get_or, set, drop, replicate, refl, sym, ap, arith, true≢false}
use Rattle.no_read_types.specs.Graph.{is_set, count_set, count_clear, is_clear}

-- ---- a flag by its place

pub set_here : (flags : List Bool) (n : ℕ) → get_or flags n false ≡ true → is_set flags n ≡ true
set_here flags n e = e

pub set_none : (flags : List Bool) (n : ℕ) → length flags ≤ n → count_set (drop n flags) ≡ 0
set_none [] zero h = refl
set_none [] (suc n) h = refl
set_none (f ∷ flags) zero h = absurd (omega arith)
set_none (f ∷ flags) (suc n) h = set_none flags n (omega arith)

-- one flag less is clear
pub clear_falls : (flags : List Bool) (n : ℕ) → is_clear flags n ≡ true → suc (count_clear (set flags n true)) ≡ count_clear flags
clear_falls [] n e = absurd (true≢false (sym e))
clear_falls (true ∷ flags) zero e = absurd (true≢false (sym e))
clear_falls (false ∷ flags) zero e = refl
clear_falls (true ∷ flags) (suc n) e = clear_falls flags n e
clear_falls (false ∷ flags) (suc n) e = ap suc (clear_falls flags n e)

-- one flag less is set
pub set_falls : (flags : List Bool) (n : ℕ) → is_set flags n ≡ true → suc (count_set (set flags n false)) ≡ count_set flags
set_falls [] n e = absurd (true≢false (sym e))
set_falls (false ∷ flags) zero e = absurd (true≢false (sym e))
set_falls (true ∷ flags) zero e = refl
set_falls (false ∷ flags) (suc n) e = set_falls flags n e
set_falls (true ∷ flags) (suc n) e = ap suc (set_falls flags n e)

pub count_replicate : (n : ℕ) → count_set (replicate n true) ≡ n
count_replicate zero = refl
count_replicate (suc n) = ap suc (count_replicate n)

pub is_set_within : (flags : List Bool) (n : ℕ) → is_set flags n ≡ true → n < length flags
is_set_within [] n e = absurd (true≢false (sym e))
is_set_within (f ∷ flags) zero e = omega arith
is_set_within (f ∷ flags) (suc n) e = let h = is_set_within flags n e in omega arith

pub clear_within : (flags : List Bool) (n : ℕ) → is_clear flags n ≡ true → n < length flags
clear_within [] n e = absurd (true≢false (sym e))
clear_within (f ∷ flags) zero e = omega arith
clear_within (f ∷ flags) (suc n) e = let h = clear_within flags n e in omega arith

pub clear_is : (flags : List Bool) (n : ℕ) → n < length flags → is_set flags n ≡ false → is_clear flags n ≡ true
clear_is [] n lt e = absurd (omega arith)
clear_is (true ∷ flags) zero lt e = absurd (true≢false e)
clear_is (false ∷ flags) zero lt e = refl
clear_is (f ∷ flags) (suc n) lt e = clear_is flags n (omega arith) e
