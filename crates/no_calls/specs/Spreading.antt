-- How far numbers are from where a search begins, in steps from a number to a set that it uses and on to a member of the set.
use Rattle.std.specs.Prelude.{◌≡◌, ℕ, ◌+◌, ◌<◌, ◌≤◌, ◌⊎◌, Bool, true, false, List, [], ◌∷◌, length, slice_index_or, Option, Some, None, Vec}
use Rattle.std.specs.Global.{Global}
use Rattle.std.specs.List.{Contains}
use Rattle.no_calls.specs.Rows.{row}
use Rattle.no_calls.specs.Reaching.{IsRising}
use Rattle.no_calls.specs.declared.found.Found.{Found}

-- how far number k is, where it was found
abbrev pub at : List (Option ℕ) → ℕ → Option ℕ
at far k = slice_index_or far k None

-- number k was found
abbrev pub IsFound : List (Option ℕ) → ℕ → Type 0
IsFound far k = (d : ℕ) × (at far k ≡ Some d)

-- one step: from a to a member of a set that it uses
abbrev pub Step : List (Vec ℕ Global) → List (Vec ℕ Global) → ℕ → ℕ → Type 0
Step up down a b = (s : ℕ) × Contains (row up a) s × Contains (row down s) b

-- each number has its least number of steps from one of the starts: what holds along each step says so
pub record Measured (R : ℕ → ℕ → Type 0) (starts : List ℕ) (n : ℕ) (far : List (Option ℕ)) : Type 0 where
  pub wide : length far ≡ n
  pub begins : (k : ℕ) → k < n → Contains starts k → at far k ≡ Some 0
  pub first : (k : ℕ) → at far k ≡ Some 0 → Contains starts k
  pub back : (b d : ℕ) → at far b ≡ Some (d + 1) → (a : ℕ) × R a b × (at far a ≡ Some d)
  pub on : (a b d : ℕ) → R a b → at far a ≡ Some d → (e : ℕ) × (at far b ≡ Some e) × (e ≤ d + 1)

-- a number that was not found is one
abbrev pub unmet_one : Option ℕ → ℕ
unmet_one None = 1
unmet_one (Some d) = 0

-- how many numbers were not found
abbrev pub unmet : List (Option ℕ) → ℕ
unmet [] = 0
unmet (o ∷ far) = unmet_one o + unmet far

-- numbers were found at this level, each for a reason, and wait
pub record Noted (why : ℕ → Type 0) (level : ℕ) (old new : Found) : Type 0 where
  pub kept : (b e : ℕ) → at old.far.items b ≡ Some e → at new.far.items b ≡ Some e
  pub met : (b e : ℕ) → at new.far.items b ≡ Some e → (at old.far.items b ≡ Some e) ⊎ ((e ≡ level) × why b × Contains new.next.items b)
  pub waits : (b : ℕ) → Contains old.next.items b → Contains new.next.items b
  pub dated : (b : ℕ) → Contains new.next.items b → Contains old.next.items b ⊎ (at new.far.items b ≡ Some level)
  pub count : unmet new.far.items + length new.next.items ≡ unmet old.far.items + length old.next.items
  pub wide : length new.far.items ≡ length old.far.items

-- all of these were found
abbrev pub AreFound : List ℕ → Found → Type 0
AreFound ks found = (b : ℕ) → Contains ks b → IsFound found.far.items b

-- set s is done
abbrev pub is_done : List Bool → ℕ → Bool
is_done done s = slice_index_or done s false

-- sets that are done beside those that were: their members were found
pub record Marked (sets : List ℕ) (down : List (Vec ℕ Global)) (found : Found) (old new : List Bool) : Type 0 where
  pub kept : (s : ℕ) → is_done old s ≡ true → is_done new s ≡ true
  pub all : (s : ℕ) → Contains sets s → is_done new s ≡ true
  pub met : (s : ℕ) → is_done new s ≡ true → (is_done old s ≡ true) ⊎ AreFound (row down s) found
  pub wide : length new ≡ length old

-- a member of one of these sets
abbrev pub Reason : List ℕ → List (Vec ℕ Global) → ℕ → Type 0
Reason sets down b = (s : ℕ) × Contains sets s × Contains (row down s) b

-- each step from a leads to a number that was found, at most one further
abbrev pub IsPassed : (ℕ → ℕ → Type 0) → List (Option ℕ) → ℕ → ℕ → Type 0
IsPassed R far a d = (b : ℕ) → R a b → (e : ℕ) × (at far b ≡ Some e) × (e ≤ d + 1)

-- What was found while the numbers at a distance wait: `waiting` are those, and `next` those that were found behind them.
pub record Turning (up down : List (Vec ℕ Global)) (starts : List ℕ) (n level : ℕ) (waiting : List ℕ) (flags : List Bool) (found : Found) : Type 0 where
  pub wide : length found.far.items ≡ n
  pub begins : (k : ℕ) → k < n → Contains starts k → at found.far.items k ≡ Some 0
  pub first : (k : ℕ) → at found.far.items k ≡ Some 0 → Contains starts k
  pub back : (b d : ℕ) → at found.far.items b ≡ Some (d + 1) → (a : ℕ) × Step up down a b × (at found.far.items a ≡ Some d)
  pub most : (b d : ℕ) → at found.far.items b ≡ Some d → d ≤ level + 1
  pub passed : (a d : ℕ) → at found.far.items a ≡ Some d → Contains found.next.items a ⊎ (Contains waiting a ⊎ IsPassed (Step up down) found.far.items a d)
  pub now : (a : ℕ) → Contains waiting a → at found.far.items a ≡ Some level
  pub then' : (a : ℕ) → Contains found.next.items a → at found.far.items a ≡ Some (level + 1)
  pub done : (s : ℕ) → is_done flags s ≡ true → AreFound (row down s) found

-- each number has its least number of steps to one of the goals
pub record Towards (uses members : List (Vec ℕ Global)) (goals : List ℕ) (far : List (Option ℕ)) : Type 0 where
  pub measured : Measured (λ k a. Step uses members a k) goals (length uses) far
  pub below : (a k : ℕ) → Step uses members a k → k < length uses

-- a list of just the numbers below n that were found, rising
pub record IsListedTo (far : List (Option ℕ)) (n : ℕ) (ks : List ℕ) : Type 0 where
  pub rising : IsRising ks
  pub all : (k : ℕ) → k < n → IsFound far k → Contains ks k
  pub only : (k : ℕ) → Contains ks k → (k < n) × IsFound far k
