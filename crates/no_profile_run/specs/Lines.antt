-- The lines of a profile.
use Rattle.std.specs.Prelude.{ℕ, ◌+◌, ◌-◌, ◌/◌, ◌==◌, if◌then◌else◌, List, [], ◌∷◌, length}
use Rattle.no_ir.specs.declared.function.Function.{Function}
use Rattle.no_module.specs.Functions.{is_declared}
use Rattle.no_profile.specs.declared.profile.Line.{Line}
use Rattle.no_profile_run.specs.Moments.{Moment}
use Rattle.no_profile_run.specs.Profiled.{Entry, entries_of, pages_in, steps_in}

-- a number of things divided among so many, rounded up, and 0 among none
abbrev pub share : ℕ → ℕ → ℕ
share things many = if many == 0 then 0 else (things + (many - 1)) / many

-- the line of a function: how often it was called from outside its own calls, what was counted inside these, and how many different pages each touched on the average
abbrev pub line_of : List ℕ → List Entry → Line
line_of name entries = record { name = name; calls = length entries; steps = steps_in entries; pages = share (pages_in entries) (length entries) }

-- the line of function k, where it is defined
abbrev pub lines_at : ℕ → Function → List Moment → List Line
lines_at k g rows = if is_declared g then [] else line_of g.name (entries_of k rows) ∷ []

-- the lines of the defined functions, of which the first has number k
abbrev pub lines_from : ℕ → List Function → List Moment → List Line
lines_from k [] rows = []
lines_from k (g ∷ more) rows = if is_declared g then lines_from (k + 1) more rows else line_of g.name (entries_of k rows) ∷ lines_from (k + 1) more rows
