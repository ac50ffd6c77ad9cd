-- Arguments by their number.
use Rattle.std.proofs.Common.{◌≡◌, ℕ, zero, suc, ◌+◌, List, [], ◌∷◌, length, get_or, refl, arith}
use Rattle.no_semantics.specs.Externals.{World, Effect, Stuck, still, with_none, with_one, with_two, with_four}
use Rattle.no_lib.specs.Arguments.{AreNotNone, AreNotOne, AreNotTwo, AreNotFour}

pub not_none : (args : List ℕ) → (args ≡ [] → ⊥) → AreNotNone args
not_none [] n f w = absurd (n refl)
not_none (a ∷ args) n f w = refl

pub is_one : (args : List ℕ) → length args ≡ 1 → args ≡ get_or args 0 0 ∷ []
is_one [] e = absurd (omega arith)
is_one (a ∷ []) e = refl
is_one (a ∷ b ∷ args) e = absurd (omega arith)

pub not_one : (args : List ℕ) → (length args ≡ 1 → ⊥) → AreNotOne args
not_one [] n f w = refl
not_one (a ∷ []) n f w = absurd (n refl)
not_one (a ∷ b ∷ args) n f w = refl

pub is_two : (args : List ℕ) → length args ≡ 2 → args ≡ get_or args 0 0 ∷ get_or args 1 0 ∷ []
is_two [] e = absurd (omega arith)
is_two (a ∷ []) e = absurd (omega arith)
is_two (a ∷ b ∷ []) e = refl
is_two (a ∷ b ∷ c ∷ args) e = absurd (omega arith)

pub not_two : (args : List ℕ) → (length args ≡ 2 → ⊥) → AreNotTwo args
not_two [] n f w = refl
not_two (a ∷ []) n f w = refl
not_two (a ∷ b ∷ []) n f w = absurd (n refl)
not_two (a ∷ b ∷ c ∷ args) n f w = refl

pub is_four : (args : List ℕ) → length args ≡ 4 → (last : ℕ) × (args ≡ get_or args 0 0 ∷ get_or args 1 0 ∷ get_or args 2 0 ∷ last ∷ [])
is_four [] e = absurd (omega arith)
is_four (a ∷ []) e = absurd (omega arith)
is_four (a ∷ b ∷ []) e = absurd (omega arith)
is_four (a ∷ b ∷ c ∷ []) e = absurd (omega arith)
is_four (a ∷ b ∷ c ∷ d ∷ []) e = (d, refl)
is_four (a ∷ b ∷ c ∷ d ∷ z ∷ args) e = absurd (omega arith)

pub not_four : (args : List ℕ) → (length args ≡ 4 → ⊥) → AreNotFour args
not_four [] n f w = refl
not_four (a ∷ []) n f w = refl
not_four (a ∷ b ∷ []) n f w = refl
not_four (a ∷ b ∷ c ∷ []) n f w = refl
not_four (a ∷ b ∷ c ∷ d ∷ []) n f w = absurd (n refl)
not_four (a ∷ b ∷ c ∷ d ∷ z ∷ args) n f w = refl
