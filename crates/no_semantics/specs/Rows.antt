-- What an instruction does in a state: its cost, the bytes that it needs, and what comes next.
use Rattle.std.specs.Prelude.{ℕ, ◌≡◌, ◌==◌, ◌%◌, Bool, true, false, nat_lt, if◌then◌else◌, List, [], ◌++◌, Option, Some, None}
use Rattle.no_ir.specs.declared.ending.End.{End}
use Rattle.no_ir.specs.declared.ending.End.TheVariants.{Exited, Trapped, Unfinished}
use Rattle.no_ir.specs.declared.ending.Trap.{Trap}
use Rattle.no_semantics.specs.Results.{Valued, Number, Traps, NoValue}
use Rattle.no_semantics.specs.Spans.{Span}
use Rattle.no_semantics.specs.States.{Frame, State, assigned}

-- a call of a defined function: which, and with which arguments
pub record Calling : Type 0 where
  pub function : ℕ
  pub arguments : List ℕ

-- The run goes on, and maybe bytes are written or a call is made; or the run's first frame returns; or the run ends. What has no meaning is stuck.
pub data Next : Type 0 where
  Goes : (bytes : List ℕ) (call : Option Calling) (then' : State) → Next
  Leaves : (value : Option ℕ) → Next
  Ends : (end : End) → Next
  Stuck : Next

-- What an instruction does. `sought` is what it reads to learn its cost or its trap, `reads` and `writes` what it reads and writes besides. `asks` says that it takes a byte of the input.
pub record Row : Type 0 where
  pub cost : ℕ
  pub sought : List Span
  pub reads : List Span
  pub writes : List Span
  pub asks : Bool
  pub next : Next

-- ---- rows that touch no memory

-- the row of an instruction that costs one and touches no memory
abbrev pub plain : Next → Row
plain next = record { cost = 1; sought = []; reads = []; writes = []; asks = false; next = next }

-- the row of what has no meaning
abbrev pub stuck : Row
stuck = plain Stuck

-- the row of a trap
abbrev pub trapping : Trap → Row
trapping t = plain (Ends (Trapped t))

-- the run goes on in this state
abbrev pub going : State → Row
going s = plain (Goes [] None s)

-- the run goes on in this frame
abbrev pub in_frame : State → Frame → Row
in_frame s f = going (record s { frame = f })

-- a value becomes the result
abbrev pub computed : Option ℕ → Valued → State → Row
computed into (Number n) s = in_frame s (assigned into n s.frame)
computed into (Traps t) s = trapping t
computed into NoValue s = stuck

-- ---- budgets

-- all bytes of which the pages must be there
abbrev pub needed : Row → List Span
needed row = row.sought ++ (row.reads ++ row.writes)

-- these bytes, where the run goes on
abbrev pub touched_by : Next → List Span → List Span
touched_by (Goes bytes call t) spans = spans
touched_by _ spans = []

-- what the instruction touches: an end touches nothing, whatever was read to learn it
abbrev pub touched : Row → List Span
touched row = touched_by row.next (needed row)

-- an instruction that is not finished changes nothing
abbrev pub unfinished : List Span → Row
unfinished sought = record { cost = 0; sought = sought; reads = []; writes = []; asks = false; next = Ends Unfinished }

-- a row that costs no more than is left; otherwise its instruction is not finished
abbrev pub affordable : ℕ → Row → Row
affordable left row = if nat_lt left row.cost then unfinished row.sought else row

-- What is done within what is left of a budget. With nothing left only what costs nothing is done; nothing else of an instruction is looked at.
-- A trap costs 1, so it is decided before a greater cost is.
abbrev pub limited : ℕ → Row → Row
limited left row = if row.cost == 0 then row else (if left == 0 then unfinished [] else affordable left row)

-- an instruction that the partition made costs nothing
abbrev pub charged : Bool → Row → Row
charged true row = record row { cost = 0 }
charged false row = row

-- ---- how a run ends

-- the run ends here so: the first frame's return ends it with the low 8 bits
abbrev pub EndsSo : Next → End → Type 0
EndsSo (Leaves (Some n)) e = e ≡ Exited (n % 256)
EndsSo (Ends end) e = e ≡ end
EndsSo _ e = ⊥

-- what has no meaning: the definitions are stuck here, or the run's first frame returns nothing
abbrev pub HasNoMeaning : Next → Type 0
HasNoMeaning Stuck = Unit {0}
HasNoMeaning (Leaves None) = Unit {0}
HasNoMeaning _ = ⊥
