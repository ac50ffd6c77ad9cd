-- What the rows of a run tell to a profile.
use Rattle.std.specs.Prelude.{ℕ, zero, suc, ◌+◌, ◌==◌, if◌then◌else◌, List, [], ◌∷◌, ◌++◌, map, Option, Some, None}
use Rattle.no_layout.specs.Memory.{page_of, page_count}
use Rattle.no_semantics.specs.Rows.{Row, Next, Goes, touched}
use Rattle.no_semantics.specs.Spans.{Span}
use Rattle.no_semantics.specs.States.{Frame, State}

-- the functions of calls that are open, the newest first: of a frame and its callers all but the lowest, which nobody called
abbrev pub open_from : ℕ → List ℕ → List ℕ
open_from f [] = []
open_from f (g ∷ gs) = f ∷ open_from g gs

-- those that are open in a state
abbrev pub open_in : State → List ℕ
open_in s = open_from s.frame.function (map (λ (f : Frame). f.function) s.callers)

-- so many pages from one on
abbrev pub pages_from : ℕ → ℕ → List ℕ
pages_from p zero = []
pages_from p (suc n) = p ∷ pages_from (p + 1) n

-- the pages on which bytes lie
abbrev pub pages_of : List Span → List ℕ
pages_of [] = []
pages_of (s ∷ ss) = (if s.len == 0 then [] else pages_from (page_of s.at) (page_count s.at s.len)) ++ pages_of ss

-- the function that is called, where one is
abbrev pub called_by : Next → Option ℕ
called_by (Goes bytes (Some call) t) = Some call.function
called_by _ = None

-- a row: the calls that are open before it, its cost, the pages that it touches, and the function that it calls
pub record Moment : Type 0 where
  pub inside : List ℕ
  pub cost : ℕ
  pub pages : List ℕ
  pub calls : Option ℕ

-- the row of a state
abbrev pub moment_of : State → Row → Moment
moment_of s r = record { inside = open_in s; cost = r.cost; pages = pages_of (touched r); calls = called_by r.next }
