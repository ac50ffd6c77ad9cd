-- Paths along a relation between numbers, as that of functions which may call one another, and what they lead to.
use Rattle.std.specs.Prelude.{◌≡◌, ◌<◌, ◌⊎◌, ℕ, List, [], ◌∷◌, length, slice_index, Option, Some, None}
use Rattle.std.specs.List.{Contains}

-- a leads to b by way of these numbers, of which the last is b: each is related to the next
abbrev pub Path : (ℕ → ℕ → Type 0) → ℕ → List ℕ → ℕ → Type 0
Path R a [] b = a ≡ b
Path R a (c ∷ more) b = R a c × Path R c more b

-- the least relation in which each number reaches itself, those that it is related to, and all that these reach
abbrev pub Reaches : (ℕ → ℕ → Type 0) → ℕ → ℕ → Type 0
Reaches R a b = (way : List ℕ) × Path R a way b

-- each number is greater than those before it
abbrev pub IsRising : List ℕ → Type 0
IsRising ks = (i j : ℕ) → i < j → j < length ks → slice_index ks i < slice_index ks j

-- all that a reaches, rising
pub record IsReached (R : ℕ → ℕ → Type 0) (a : ℕ) (ks : List ℕ) : Type 0 where
  pub rising : IsRising ks
  pub all : (k : ℕ) → Reaches R a k → Contains ks k
  pub only : (k : ℕ) → Contains ks k → Reaches R a k

-- all numbers below n that reach one of the goals, rising
pub record IsReaching (R : ℕ → ℕ → Type 0) (goals : List ℕ) (n : ℕ) (ks : List ℕ) : Type 0 where
  pub rising : IsRising ks
  pub all : (k g : ℕ) → k < n → Contains goals g → Reaches R k g → Contains ks k
  pub only : (k : ℕ) → Contains ks k → (g : ℕ) × Contains goals g × Reaches R k g

-- the order of lists of numbers: a list, and one that does not come before it
abbrev pub IsUpTo : List ℕ → List ℕ → Type 0
IsUpTo [] q = Unit {0}
IsUpTo (a ∷ p) [] = ⊥
IsUpTo (a ∷ p) (b ∷ q) = (a < b) ⊎ ((a ≡ b) × IsUpTo p q)

-- p is shorter than q, or as long and not after it
abbrev pub IsBest : List ℕ → List ℕ → Type 0
IsBest p q = (length p < length q) ⊎ ((length p ≡ length q) × IsUpTo p q)

-- a way from a to one of the goals
abbrev pub IsWay : (ℕ → ℕ → Type 0) → List ℕ → ℕ → List ℕ → Type 0
IsWay R goals a way = (g : ℕ) × Contains goals g × Path R a way g

-- no goal is reached; or the list is a itself with the shortest way from it to a goal, the first one of those that are as short
abbrev pub IsShortest : (ℕ → ℕ → Type 0) → List ℕ → ℕ → Option (List ℕ) → Type 0
IsShortest R goals a None = (g : ℕ) → Contains goals g → Reaches R a g → ⊥
IsShortest R goals a (Some p) = (way : List ℕ) × (p ≡ a ∷ way) × IsWay R goals a way × ((q : List ℕ) → IsWay R goals a q → IsBest way q)
