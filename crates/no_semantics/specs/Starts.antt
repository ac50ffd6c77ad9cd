-- How runs begin (docs/LANGUAGE.md, "Running").
use Rattle.std.specs.Prelude.{ℕ, ◌+◌, ◌-◌, List, [], ◌∷◌, map, bytes_eq, codes, if◌then◌else◌, Option, Some, None}
use Rattle.no_ir.specs.declared.types.Ty.{Ty}
use Rattle.no_ir.specs.declared.function.Function.{Function}
use Rattle.no_layout.specs.Memory.{stack_end}
use Rattle.no_semantics.specs.Accepted.{Accepted}
use Rattle.no_semantics.specs.Calls.{call_room, entry_frame}
use Rattle.no_semantics.specs.First.{program_of, first_byte}
use Rattle.no_semantics.specs.Registers.{given}
use Rattle.no_semantics.specs.States.{Frame, State, function_at}
use Rattle.no_semantics.specs.Values.{Program}

-- the number of the first function of the name main, from n on
abbrev pub main_from : ℕ → List Function → Option ℕ
main_from n [] = None
main_from n (f ∷ more) = if bytes_eq f.name (codes "main") then Some n else main_from (n + 1) more

-- the number of a program's first function of the name main
abbrev pub main_number : Program → Option ℕ
main_number p = main_from 0 p.«module».functions

-- a zero for each parameter: no arguments, and null for their texts
abbrev pub zeros_for : List (ℕ × Ty) → List ℕ
zeros_for params = map (λ q. 0) params

-- a frame at the entry of function k of a program, behind which this stack pointer comes back
abbrev pub entry_of : Program → ℕ → List ℕ → ℕ → Option Frame
entry_of p k arguments saved = given None (function_at p k) (λ g. entry_frame k g arguments saved)

-- the frame at the entry of main, with a zero for each parameter
abbrev pub main_frame : Program → Option Frame
main_frame p = given None (main_number p) (λ k. given None (function_at p k) (λ g. entry_frame k g (zeros_for g.params) stack_end))

-- main begins as by a call from the upper end of the stack, with no live block
abbrev pub begun : (ℕ → ℕ) → List ℕ → Frame → State
begun byte input f = record { frame = f; callers = []; sp = stack_end - call_room; byte = byte; heap = []; input = input }

-- the state at which a program begins, over these bytes and this input; none where it has no main
unfoldable pub start : Program → (ℕ → ℕ) → List ℕ → Option State
start p byte input = given None (main_frame p) (λ f. Some (begun byte input f))

-- an accepted program on its first bytes and an input
abbrev pub start_of : Accepted → List ℕ → Option State
start_of a input = start (program_of a) (first_byte a) input

-- a state at the entry of function k with arguments, which nobody in it called
abbrev pub at_entry : Program → State → ℕ → List ℕ → Option State
at_entry p s k arguments = given None (entry_of p k arguments s.sp) (λ f. Some (record s { frame = f; callers = [] }))
