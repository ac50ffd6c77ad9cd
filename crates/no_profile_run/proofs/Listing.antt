-- The lines of functions, one after another.
use Rattle.std.proofs.Common.{◌≡◌, ℕ, ◌+◌, ◌<◌, Bool, true, false, if◌then◌else◌, List, [], ◌∷◌, ◌++◌, append_assoc, append-nil, drop, length, slice_get, Some, refl, sym, ap, subst, ◌∙◌}
use Rattle.std.proofs.Math.Seq.{drop-cons}
use Rattle.no_ir.specs.declared.function.Function.{Function}
use Rattle.no_module.specs.Functions.{is_declared}
use Rattle.no_profile.specs.declared.profile.Line.{Line}
use Rattle.no_profile_run.specs.Lines.{line_of, lines_at, lines_from, share}
use Rattle.no_profile_run.specs.Moments.{Moment}
use Rattle.no_profile_run.specs.Profiled.{Entry, entries_of, pages_in}
use Rattle.no_profile_run.specs.Tallied.{AreClosed, IsCounter}
use Rattle.no_profile_run.specs.declared.tally.Counter.{Counter}
use Rattle.no_profile_run.specs.declared.tally.Tally.{Tally}

-- a counter gives its function's line
pub line_is : (name : List ℕ) (c : Counter) (pages : ℕ) (entries : List Entry) → pages ≡ share c.pages c.calls → IsCounter false c entries → record { name = name; calls = c.calls; steps = c.steps; pages = pages } ≡ line_of name entries
line_is name c pages entries is h =
    let pages' : pages ≡ share (pages_in entries) (length entries) = is ∙ ap (λ (n : ℕ). share n c.calls) h.pages ∙ ap (share (pages_in entries)) h.calls in
    λ i. record { name = name; calls = h.calls i; steps = h.steps i; pages = pages' i }

-- the first lines of them
abbrev pub AreFirst : Tally → List Function → List Line → ℕ → Type 0
AreFirst t functions lines k = (rows : List Moment) → AreClosed t (λ f. entries_of f rows) → lines ++ lines_from k (drop k functions) rows ≡ lines_from 0 functions rows

pub first_none : (t : Tally) (functions : List Function) → AreFirst t functions [] 0
first_none t functions rows closed = refl

at_front : (k : ℕ) (g : Function) (more : List Function) (rows : List Moment) → lines_from k (g ∷ more) rows ≡ lines_at k g rows ++ lines_from (k + 1) more rows
at_front k g more rows = of (is_declared g)
  where
    of : (b : Bool) → (if b then lines_from (k + 1) more rows else line_of g.name (entries_of k rows) ∷ lines_from (k + 1) more rows) ≡ (if b then [] else line_of g.name (entries_of k rows) ∷ []) ++ lines_from (k + 1) more rows
    of true = refl
    of false = refl

pub first_next : (t : Tally) (functions : List Function) (lines new : List Line) (k : ℕ) (g : Function) → drop k functions ≡ g ∷ drop (k + 1) functions → ((rows : List Moment) → AreClosed t (λ f. entries_of f rows) → new ≡ lines ++ lines_at k g rows)
    → AreFirst t functions lines k → AreFirst t functions new (k + 1)
first_next t functions lines new k g is added before rows closed =
    ap (λ (l : List Line). l ++ lines_from (k + 1) (drop (k + 1) functions) rows) (added rows closed)
    ∙ append_assoc lines (lines_at k g rows) (lines_from (k + 1) (drop (k + 1) functions) rows)
    ∙ ap (λ (l : List Line). lines ++ l) (sym (at_front k g (drop (k + 1) functions) rows) ∙ ap (λ (fs : List Function). lines_from k fs rows) (sym is))
    ∙ before rows closed

pub first_all : (t : Tally) (functions : List Function) (lines : List Line) (k : ℕ) → drop k functions ≡ [] → AreFirst t functions lines k → (rows : List Moment) → AreClosed t (λ f. entries_of f rows) → lines ≡ lines_from 0 functions rows
first_all t functions lines k none before rows closed =
    sym (append-nil lines) ∙ sym (ap (λ (fs : List Function). lines ++ lines_from k fs rows) none) ∙ before rows closed
