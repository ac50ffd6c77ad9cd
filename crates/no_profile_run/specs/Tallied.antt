-- What a tally holds of the rows of a run.
use Rattle.std.specs.Prelude.{◌≡◌, ℕ, ◌+◌, ◌≤◌, ◌<◌, ◌==◌, ◌⊎◌, Bool, true, false, nat_lt, if◌then◌else◌, List, [], ◌∷◌, ◌++◌, length, slice_get, slice_index, Option, Some, None}
use Rattle.no_machine.specs.Watching.{IsPlaceOf, IsTouchOf}
use Rattle.no_machine.specs.declared.watch.Place.{Place}
use Rattle.no_machine.specs.declared.watch.Touch.{Touch}
use Rattle.no_semantics.specs.Acting.{row}
use Rattle.no_semantics.specs.Rows.{Calling, Goes}
use Rattle.no_semantics.specs.States.{State}
use Rattle.no_semantics.specs.Values.{Program}
use Rattle.no_profile_run.specs.Profiled.{Entry, different, is_among, pages_in, steps_in}
use Rattle.no_profile_run.specs.declared.tally.Counter.{Counter}
use Rattle.no_profile_run.specs.declared.tally.Open.{Open}
use Rattle.no_profile_run.specs.declared.tally.Tally.{Tally}

-- ---- one after another

-- a page is touched inside the newest entry
abbrev pub touched : ℕ → List Entry → List Entry
touched p [] = []
touched p (e ∷ older) = record { steps = e.steps; pages = p ∷ e.pages } ∷ older

-- pages are touched there, one after another
abbrev pub touched_all : List ℕ → List Entry → List Entry
touched_all [] entries = entries
touched_all (p ∷ ps) entries = touched_all ps (touched p entries)

-- so much is counted inside the newest entry
abbrev pub paid : ℕ → List Entry → List Entry
paid cost [] = []
paid cost (e ∷ older) = record { steps = e.steps + cost; pages = e.pages } ∷ older

-- an outermost call of a function begins
abbrev pub begun : ℕ → (ℕ → List Entry) → ℕ → List Entry
begun f entries g = if g == f then record { steps = 0; pages = [] } ∷ entries g else entries g

-- some entries of the functions that are named change, those of others not
abbrev pub among : List ℕ → (List Entry → List Entry) → (ℕ → List Entry) → ℕ → List Entry
among fs change entries g = if is_among g fs then change (entries g) else entries g

-- ---- open calls

-- the different functions of open calls, in the order of their first calls
abbrev pub outermost : List ℕ → List ℕ
outermost [] = []
outermost (f ∷ fs) = if is_among f fs then outermost fs else outermost fs ++ f ∷ []

-- how often a number stands in a list
abbrev pub times : ℕ → List ℕ → ℕ
times f [] = 0
times f (g ∷ fs) = (if g == f then 1 else 0) + times f fs

-- an outermost call that is open stands for an entry: a page was touched inside it if its stamp is not older than the call
pub record IsOpen (stamps : List ℕ) (count : ℕ) (o : Open) (e : Entry) : Type 0 where
  pub steps : e.steps + o.since ≡ count
  pub pages : o.pages ≡ different e.pages
  pub high : (p : ℕ) → is_among p e.pages ≡ true → o.time ≤ slice_index stamps p
  pub low : (p : ℕ) → p < length stamps → o.time ≤ slice_index stamps p → is_among p e.pages ≡ true

-- it is the newest entry of its function
pub record IsNewest (fs stamps : List ℕ) (time : ℕ) (entries : ℕ → List Entry) (count k : ℕ) (o : Open) : Type 0 where
  pub function : slice_get fs k ≡ Some o.function
  pub e : Entry
  pub older : List Entry
  pub is : entries o.function ≡ e ∷ older
  pub stands : IsOpen stamps count o e
  pub past : o.time ≤ time

-- the entries that are closed: all, or all but the newest
abbrev pub closed : Bool → List Entry → List Entry
closed true [] = []
closed true (e ∷ older) = older
closed false entries = entries

-- a counter has all calls of its function, and what was counted and touched inside those that are closed
pub record IsCounter (b : Bool) (c : Counter) (entries : List Entry) : Type 0 where
  pub calls : c.calls ≡ length entries
  pub steps : c.steps ≡ steps_in (closed b entries)
  pub pages : c.pages ≡ pages_in (closed b entries)

-- a tally of these entries by functions, with outermost calls open of these functions, behind so much that was counted
pub record Holds (fs : List ℕ) (t : Tally) (entries : ℕ → List Entry) (count : ℕ) : Type 0 where
  pub many : length t.live.items ≡ length fs
  pub opens : (k : ℕ) (o : Open) → slice_get t.live.items k ≡ Some o → IsNewest fs t.stamps.items t.time entries count k o
  pub counters : (f : ℕ) (c : Counter) → slice_get t.counters.items f ≡ Some c → IsCounter (is_among f fs) c (entries f)
  pub stamped : (p : ℕ) → slice_index t.stamps.items p ≤ t.time

-- the same behind rows, with these calls open
pub record Tallied (inside : List ℕ) (t : Tally) (entries : ℕ → List Entry) (count : ℕ) : Type 0 where
  pub holds : Holds (outermost inside) t entries count
  pub depth : (f : ℕ) (c : Counter) → slice_get t.counters.items f ≡ Some c → c.depth ≡ times f inside

-- where a call of a function is made inside others: an outermost one begins where none is open
abbrev pub called_in : List ℕ → ℕ → (ℕ → List Entry) → ℕ → List Entry
called_in inside f entries = if is_among f inside then entries else begun f entries

-- ---- what the tally's parts do

-- a counter of nothing
abbrev pub nothing : Counter
nothing = record { depth = 0; calls = 0; steps = 0; pages = 0 }

-- of one function so many calls are open now, and of each other one as many as before
abbrev pub HasDepth : ℕ → ℕ → List Counter → List Counter → Type 0
HasDepth f depth old new = (k : ℕ) (c : Counter) → slice_get new k ≡ Some c → ((k ≡ f) × (c.depth ≡ depth)) ⊎ ((f ≡ k → ⊥) × (d : Counter) × (slice_get old k ≡ Some d) × (c.depth ≡ d.depth))

-- the depth of each function is as before
abbrev pub KeepsDepths : List Counter → List Counter → Type 0
KeepsDepths old new = (k : ℕ) (c : Counter) → slice_get new k ≡ Some c → (d : Counter) × (slice_get old k ≡ Some d) × (c.depth ≡ d.depth)

-- an open call once a page was touched that had this stamp
abbrev pub bumped : ℕ → Open → Open
bumped stamp o = if nat_lt stamp o.time then record o { pages = o.pages + 1 } else o

-- a row leads from a state to another, and it is as a tally is told: what it touches, how many bytes it writes, where the run stands before and after it, and what was counted by then, where n was before
pub record HasPassed (touch : Touch) (wrote : ℕ) (before after : Place) (count : ℕ) (p : Program) (s : State) (bytes : List ℕ) (call : Option Calling) (t : State) (n : ℕ) : Type 0 where
  pub next : (row p s).next ≡ Goes bytes call t
  pub from : IsPlaceOf before s
  pub to : IsPlaceOf after t
  pub touches : IsTouchOf touch (row p s)
  pub long : wrote ≡ length bytes
  pub counts : count ≡ n + (row p s).cost

-- a tally of these entries by functions, of which all are closed
abbrev pub AreClosed : Tally → (ℕ → List Entry) → Type 0
AreClosed t entries = (f : ℕ) (c : Counter) → slice_get t.counters.items f ≡ Some c → IsCounter false c (entries f)
