-- The outermost calls of a function in the rows of a run, and what is counted inside them.
use Rattle.std.specs.Prelude.{ℕ, ◌+◌, ◌==◌, Bool, false, if◌then◌else◌, List, [], ◌∷◌, Option, Some, None}
use Rattle.std.specs.List.{list_any}
use Rattle.no_profile_run.specs.Moments.{Moment}

-- an outermost call of a function: what was counted inside, and the pages that were touched there, the newest first
pub record Entry : Type 0 where
  pub steps : ℕ
  pub pages : List ℕ

-- whether a number is one of a list
abbrev pub is_among : ℕ → List ℕ → Bool
is_among f fs = list_any (λ g. g == f) fs

-- pages that are touched one after another
abbrev pub touching : List ℕ → List ℕ → List ℕ
touching [] before = before
touching (p ∷ ps) before = touching ps (p ∷ before)

-- what a row adds to the newest entry
abbrev pub grown : Moment → List Entry → List Entry
grown m [] = []
grown m (e ∷ older) = record { steps = e.steps + m.cost; pages = touching m.pages e.pages } ∷ older

-- whether a row calls a function
abbrev pub is_call : ℕ → Option ℕ → Bool
is_call f None = false
is_call f (Some g) = g == f

-- a call of the function opens an entry
abbrev pub called : ℕ → Option ℕ → List Entry → List Entry
called f call entries = if is_call f call then record { steps = 0; pages = [] } ∷ entries else entries

-- what a row makes of the entries: where a call is open, the newest grows, and else a call opens one
abbrev pub with_row : ℕ → Moment → List Entry → List Entry
with_row f m entries = if is_among f m.inside then grown m entries else called f m.calls entries

-- the outermost calls of a function in some rows, both the newest first
abbrev pub entries_of : ℕ → List Moment → List Entry
entries_of f [] = []
entries_of f (m ∷ before) = with_row f m (entries_of f before)

-- how many different numbers a list has
abbrev pub different : List ℕ → ℕ
different [] = 0
different (p ∷ ps) = (if is_among p ps then 0 else 1) + different ps

-- what was counted inside calls, in all
abbrev pub steps_in : List Entry → ℕ
steps_in [] = 0
steps_in (e ∷ older) = e.steps + steps_in older

-- how many different pages each call touched, in all
abbrev pub pages_in : List Entry → ℕ
pages_in [] = 0
pages_in (e ∷ older) = different e.pages + pages_in older
