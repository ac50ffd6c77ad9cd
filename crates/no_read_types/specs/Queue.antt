-- Which definitions are ready for a number, and what each of the others waits for.
use Rattle.std.specs.Prelude.{◌≡◌, ℕ, Bool, true, false, ◌&&◌, ◌||◌, not, ◌⊎◌, ◌≤◌, nat_eq, List, length, get_or, take, set, Option, Some, None}
use Rattle.std.specs.List.{list_any, find}
use Rattle.no_read_types.specs.Graph.{references_at, is_set}

-- ready where it waits for none; otherwise watched at the first that it waits for
abbrev pub IsQueued : (ℕ → Bool) → List (List ℕ) → ℕ → Option ℕ → Type 0
IsQueued ready watchers n None = ready n ≡ true
IsQueued ready watchers n (Some w) = list_any (nat_eq n) (references_at watchers w) ≡ true

-- the ready ones, the watchers of each, and how many of its references each has behind it, while these are left to be queued
pub record IsQueue (graph : List (List ℕ)) (waits : List Bool) (ready : ℕ → Bool) (watchers : List (List ℕ)) (places : List ℕ) (left : List ℕ) : Type 0 where
  pub long : length watchers ≡ length graph
  pub as_long : length places ≡ length graph
  pub clear : (n : ℕ) → list_any (is_set waits) (take (get_or places n 0) (references_at graph n)) ≡ false
  pub sound : (n : ℕ) → ready n ≡ true → (is_set waits n ≡ true) × (find (is_set waits) (references_at graph n) ≡ None)
  pub queued : (n : ℕ) → is_set waits n ≡ true → (list_any (nat_eq n) left ≡ true) ⊎ IsQueued ready watchers n (find (is_set waits) (references_at graph n))

-- the least of a set, and the set without it
pub record IsLeast (old new : ℕ → Bool) (n : ℕ) : Type 0 where
  pub member : old n ≡ true
  pub least : (m : ℕ) → old m ≡ true → n ≤ m
  pub rest : (m : ℕ) → new m ≡ (old m && not (nat_eq m n))

-- the least of a set, and the set without it; or none, where the set is empty
abbrev pub TakesLeast : (old new : ℕ → Bool) → Option ℕ → Type 0
TakesLeast old new None = (m : ℕ) → (old m ≡ false) × (new m ≡ old m)
TakesLeast old new (Some n) = IsLeast old new n

-- a set with one more
abbrev pub Adds : (old new : ℕ → Bool) → ℕ → Type 0
Adds old new n = (m : ℕ) → new m ≡ (nat_eq m n || old m)

-- which wait once this one, if any, has its number
abbrev pub cleared : List Bool → Option ℕ → List Bool
cleared waits None = waits
cleared waits (Some n) = set waits n false
