-- How great the numbers of a profile may be.
use Rattle.std.specs.Prelude.{ℕ, ◌≤◌, List, [], ◌∷◌}
use Rattle.no_profile.specs.declared.profile.Line.{Line}
use Rattle.no_profile.specs.declared.profile.Profile.{Profile}

-- the greatest number of calls and of steps: that of instructions in a run
abbrev pub MOST_STEPS : ℕ
MOST_STEPS = 4294967296

-- the greatest number of pages: those of all addresses
abbrev pub MOST_PAGES : ℕ
MOST_PAGES = 1048576

-- a line with numbers in their ranges
pub record IsInRange (l : Line) : Type 0 where
  pub calls : l.calls ≤ MOST_STEPS
  pub steps : l.steps ≤ MOST_STEPS
  pub pages : l.pages ≤ MOST_PAGES

-- lines with numbers in their ranges
abbrev pub AreInRange : List Line → Type 0
AreInRange [] = Unit {0}
AreInRange (l ∷ lines) = IsInRange l × AreInRange lines

-- a profile with numbers in their ranges
pub record IsRanged (p : Profile) : Type 0 where
  pub steps : p.steps ≤ MOST_STEPS
  pub lines : AreInRange p.lines
