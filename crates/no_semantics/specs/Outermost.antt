-- The outermost calls of some functions in a run, and what is counted inside them.
use Rattle.std.specs.Prelude.{◌≡◌, ℕ, zero, suc, ◌+◌, ◌-◌, Bool, nat_le, if◌then◌else◌, List, [], ◌∷◌, length, sum, map, Option, Some, None, option_map}
use Rattle.no_semantics.specs.Accepted.{Accepted}
use Rattle.no_semantics.specs.Acting.{step}
use Rattle.no_semantics.specs.First.{program_of}
use Rattle.no_semantics.specs.Rows.{Next, Calling, Goes, Leaves, Ends, Stuck}
use Rattle.no_semantics.specs.Starts.{start_of}
use Rattle.no_semantics.specs.States.{State}
use Rattle.no_semantics.specs.Values.{Program}

-- a call, and what is counted from its entry to its return, the return included, or to the run's end
pub record Entry : Type 0 where
  pub call : Calling
  pub inside : ℕ

-- the call that is open: how many frames stand below its own, and what was counted inside it so far
pub record Opened : Type 0 where
  pub call : Calling
  pub depth : ℕ
  pub inside : ℕ

-- the entry of an open call, if it closed now
abbrev pub entry_of : Opened → Entry
entry_of o = record { call = o.call; inside = o.inside }

-- an open call after an instruction of this cost
abbrev pub counted : ℕ → Opened → Opened
counted cost o = record o { inside = o.inside + cost }

-- a call of one of the functions opens an entry where none is open
abbrev pub opened : (ℕ → Bool) → Option Calling → State → Option Opened
opened among None t = None
opened among (Some c) t = if among c.function then Some (record { call = c; depth = length t.callers; inside = 0 }) else None

-- an entry stays open while its frame is live
abbrev pub is_live : Opened → State → Bool
is_live o t = nat_le o.depth (length t.callers)

-- the entries of a run's end
abbrev pub closed : ℕ → Option Opened → List Entry
closed cost None = []
closed cost (Some o) = entry_of (counted cost o) ∷ []

-- a call stays open while its frame is live; once that is gone its entry comes, and then those of the rest
abbrev pub kept_open : Opened → State → (Option Opened → Option (List Entry)) → Option (List Entry)
kept_open o t rest = if is_live o t then rest (Some o) else option_map (λ more. entry_of o ∷ more) (rest None)

-- the entries behind an instruction that goes on: its cost counts inside an open call, and where none is open its call may open one
abbrev pub entries_on : (ℕ → Bool) → ℕ → Option Calling → State → Option Opened → (Option Opened → Option (List Entry)) → Option (List Entry)
entries_on among cost call t None rest = rest (opened among call t)
entries_on among cost call t (Some o) rest = kept_open (counted cost o) t rest

-- the entries from an instruction on, by what comes next; none where the run gets stuck
abbrev pub entries_by : (ℕ → Bool) → ℕ → Next → Option Opened → (State → Option Opened → Option (List Entry)) → Option (List Entry)
entries_by among cost (Goes bytes call t) mark rest = entries_on among cost call t mark (rest t)
entries_by among cost (Leaves value) mark rest = Some (closed cost mark)
entries_by among cost (Ends end) mark rest = Some (closed cost mark)
entries_by among cost Stuck mark rest = None

-- the entries from a state on, where the run finishes in fewer than n steps
abbrev pub entries_within : Program → (ℕ → Bool) → ℕ → ℕ → State → Option Opened → Option (List Entry)
entries_within p among zero left s mark = None
entries_within p among (suc n) left s mark = entries_by among (step p left s).cost (step p left s).next mark (entries_within p among n (left - (step p left s).cost))

-- these are the calls of the functions, in order of time, that are made while no earlier one of them is live; the entry into main at the start is no call
pub record AreOutermost (a : Accepted) (among : ℕ → Bool) (input : List ℕ) (budget : ℕ) (entries : List Entry) : Type 0 where
  pub begin : State
  pub begins : start_of a input ≡ Some begin
  pub steps : ℕ
  pub are : entries_within (program_of a) among steps budget begin None ≡ Some entries

-- what is counted inside all of them
abbrev pub inside_of : List Entry → ℕ
inside_of entries = sum (map (λ (e : Entry). e.inside) entries)
