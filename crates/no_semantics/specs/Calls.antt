-- Calls and returns (LLVM Language Reference, "call Instruction", "ret Instruction").
use Rattle.std.specs.Prelude.{ℕ, ◌+◌, ◌-◌, ◌*◌, ◌/◌, ◌%◌, Bool, true, false, ◌&&◌, ◌==◌, nat_lt, if◌then◌else◌, List, [], ◌∷◌, length, map, replicate, Option, Some, None}
use Rattle.no_ir.specs.declared.types.Ty.{Ty}
use Rattle.no_ir.specs.declared.ending.End.TheVariants.{Exited}
use Rattle.no_ir.specs.declared.ending.Trap.TheVariants.{BadFunction, StackOverflow}
use Rattle.no_ir.specs.declared.instruction.Operand.{Operand}
use Rattle.no_ir.specs.declared.function.Function.{Function}
use Rattle.no_layout.specs.Memory.{function_address, stack_start}
use Rattle.no_module.specs.declared.external.External.{External}
use Rattle.no_module.specs.declared.external.External.TheVariants as external
use Rattle.no_module.specs.Externals.{external_of}
use Rattle.no_module.specs.Functions.{is_declared}
use Rattle.no_module.specs.Scalars.{agree, same_result, scalar_of}
use Rattle.no_verify_types.specs.Typing.{direct}
use Rattle.no_semantics.specs.Control.{arrived}
use Rattle.no_semantics.specs.Externals.{World, Effect, Outcome, do_external, is_getchar}
use Rattle.no_semantics.specs.Externals as outcome
use Rattle.no_semantics.specs.Registers.{Registers, given, all_given, pointer_of, argument_of}
use Rattle.no_semantics.specs.Results.{Valued, Number, Traps, NoValue, reading, lowered, stack_place}
use Rattle.no_semantics.specs.Rows.{Row, Next, Goes, Leaves, Ends, Stuck, plain, stuck, trapping, going, unfinished}
use Rattle.no_semantics.specs.Access.{allocated}
use Rattle.no_semantics.specs.States.{Frame, State, function_at, put, answered, instr_at}
use Rattle.no_semantics.specs.Taken.{is_callable}
use Rattle.no_semantics.specs.Values.{Program}

-- ---- types of calls

-- an argument has the type of a parameter
abbrev pub is_passed : Ty × Operand → ℕ × Ty → Bool
is_passed argument param = agree (scalar_of argument.0) (scalar_of param.1)

-- as many arguments as parameters, each of its type
abbrev pub are_passed : List (Ty × Operand) → List (ℕ × Ty) → Bool
are_passed [] [] = true
are_passed (a ∷ args) (q ∷ params) = is_passed a q && are_passed args params
are_passed _ _ = false

-- a call that gives this type and passes these arguments is one of the function's type
abbrev pub has_type : Ty → List (Ty × Operand) → Function → Bool
has_type t args g = same_result t g.result && are_passed args g.params

-- ---- callees

-- the number of the function at an address, which may be no function's
abbrev pub function_number : ℕ → Option ℕ
function_number at = if nat_lt at (function_address 0) then None else (if (at - function_address 0) % 16 == 0 then Some ((at - function_address 0) / 16) else None)

-- function k, where it may be called through a pointer by such a call
abbrev pub pointed : Program → Ty → List (Ty × Operand) → ℕ → Option Function → Valued
pointed p t args k None = Traps BadFunction
pointed p t args k (Some g) = if is_callable p.«module» p.role k g && has_type t args g then Number k else Traps BadFunction

-- the function at an address, where it may be called through a pointer by such a call
abbrev pub at_address : Program → Ty → List (Ty × Operand) → ℕ → Valued
at_address p t args at = given (Traps BadFunction) (function_number at) (λ k. pointed p t args k (function_at p k))

-- the function of a bare name, and else the one that a pointer leads to
abbrev pub callee_by : Program → Registers → Ty → Operand → List (Ty × Operand) → Option ℕ → Valued
callee_by p registers t callee args (Some k) = Number k
callee_by p registers t callee args None = reading (pointer_of p registers callee) (at_address p t args)

-- the number of the function that is called: that of a bare name, and all else is a pointer
unfoldable pub callee_value : Program → Registers → Ty → Operand → List (Ty × Operand) → Valued
callee_value p registers t callee args = callee_by p registers t callee args (direct callee)

-- the numbers of all arguments, none where one of them has none
unfoldable pub arguments_of : Program → Registers → List (Ty × Operand) → Option (List ℕ)
arguments_of p registers args = all_given (map (argument_of p registers) args)

-- ---- entries

-- how far a call lowers the stack pointer
abbrev pub call_room : ℕ
call_room = 16

-- each parameter gets its argument; there are as many
abbrev pub passed : List (ℕ × Ty) → List ℕ → Registers → Option Registers
passed [] [] registers = Some registers
passed (q ∷ params) (n ∷ ns) registers = passed params ns (put q.0 n registers)
passed _ _ registers = None

-- the registers of a function before any is assigned
abbrev pub unassigned : Function → Registers
unassigned g = replicate (length g.registers) None

-- a frame at the entry of function k, behind which this stack pointer comes back
abbrev pub entry_frame : ℕ → Function → List ℕ → ℕ → Option Frame
entry_frame k g ns saved = given None (passed g.params ns (unassigned g)) (λ registers. Some (record { function = k; block = 0; at = 0; registers = registers; saved = saved }))

-- a function begins in this frame, and the frame that calls it becomes the newest caller
abbrev pub called : ℕ → List ℕ → ℕ → State → Option Frame → Row
called k ns sp s None = stuck
called k ns sp s (Some f) = plain (Goes [] (Some (record { function = k; arguments = ns })) (record s { frame = f; callers = s.frame ∷ s.callers; sp = sp }))

-- the stack pointer would fall below the stack, or the function begins
abbrev pub entered : ℕ → Function → List ℕ → State → Row
entered k g ns s = if nat_lt s.sp (stack_start + call_room) then trapping StackOverflow else called k ns (s.sp - call_room) s (entry_frame k g ns s.sp)

-- ---- externals

-- the part of a state that an external may change
abbrev pub world_of : State → World
world_of s = record { byte = s.byte; heap = s.heap; input = s.input }

-- a state with this part in the place of its own
abbrev pub with_world : State → World → State
with_world s w = record s { byte = w.byte; heap = w.heap; input = w.input }

-- the call gets its value, and the run goes on with what the external leaves
abbrev pub effect_next : Effect → State → Option Frame → Next
effect_next e s None = Stuck
effect_next e s (Some f) = Goes e.output None (record (with_world s e.world) { frame = f })

-- the row of an external that goes on: what it costs, the bytes that it touches, and what it leaves
abbrev pub effect_row : ℕ → Effect → State → Option Frame → Row
effect_row cost e s f = record { cost = cost; sought = e.sought; reads = e.reads; writes = e.writes; asks = false; next = effect_next e s f }

-- the row of an external, by its outcome
abbrev pub outcome_row : Option ℕ → Outcome → Effect → State → Row
outcome_row into (outcome.Gives v cost) e s = effect_row cost e s (answered into (Some v) s.frame)
outcome_row into (outcome.Does cost) e s = effect_row cost e s (answered into None s.frame)
outcome_row into (outcome.Exits c) e s = plain (Ends (Exited c))
outcome_row into (outcome.Traps t) e s = record (trapping t) { sought = e.sought }
outcome_row into outcome.Over e s = unfinished e.sought
outcome_row into outcome.Stuck e s = stuck

-- what an external does, and its result
abbrev pub row_effect : Option ℕ → Effect → State → Row
row_effect into e s = outcome_row into e.outcome e s

-- the device address of a function is this one
abbrev pub has_address : ℕ → Option ℕ → Bool
has_address at None = false
has_address at (Some a) = a == at

-- the first function of a part with a device address, by its number from k on
abbrev pub addressed_from : ℕ → List Function → ℕ → Option ℕ
addressed_from k [] at = None
addressed_from k (f ∷ more) at = if has_address at f.device_address then Some k else addressed_from (k + 1) more at

-- the number to call for an address of the device, or null
abbrev pub mapped : Option ℕ → ℕ
mapped None = 0
mapped (Some k) = function_address k

-- the row of `no.map`, which gives the number to call for an address of the device
abbrev pub row_map : Program → Option ℕ → List ℕ → State → Row
row_map p into (at ∷ []) s = arrived s (answered into (Some (mapped (addressed_from 0 p.«module».functions at))) s.frame)
row_map p into _ s = stuck

-- so many times so many bytes on the stack
abbrev pub row_room : Option ℕ → List ℕ → State → Row
row_room into (n ∷ size ∷ align ∷ []) s = allocated into (stack_place (lowered s.sp (n * size) align)) s
row_room into _ s = stuck

-- the row of a call of an external
abbrev pub row_external : Program → Option ℕ → External → List ℕ → State → Row
row_external p into external.Alloca ns s = row_room into ns s
row_external p into external.Map ns s = row_map p into ns s
row_external p into e ns s = record (row_effect into (do_external p.regions e ns (world_of s)) s) { asks = is_getchar e }

-- ---- instructions

-- the row of a call of function k: that of an external where it is declared, and else its entry
abbrev pub invoked : Program → Option ℕ → ℕ → List ℕ → State → Function → Row
invoked p into k ns s g = if is_declared g then given stuck (external_of p.role g) (λ e. row_external p into e ns s) else entered k g ns s

-- the row of a call, once it is known which function is called
abbrev pub calling : Program → Option ℕ → Valued → List (Ty × Operand) → State → Row
calling p into (Number k) args s = given stuck (arguments_of p s.frame.registers args) (λ ns. given stuck (function_at p k) (invoked p into k ns s))
calling p into (Traps t) args s = trapping t
calling p into NoValue args s = stuck

-- "call Instruction"
unfoldable pub row_call : Program → Option ℕ → Ty → Operand → List (Ty × Operand) → State → Row
row_call p into t callee args s = calling p into (callee_value p s.frame.registers t callee args) args s

-- the caller gets the result, and stands behind its call
abbrev pub returned_in : State → List Frame → Option Frame → Row
returned_in s callers None = stuck
returned_in s callers (Some f) = going (record s { frame = f; callers = callers; sp = s.frame.saved })

-- the row of a return: to the newest caller, or out of the run's first frame
abbrev pub returned : Program → Option ℕ → List Frame → State → Row
returned p value [] s = plain (Leaves value)
returned p value (c ∷ callers) s = returned_in s callers (given None (instr_at p c) (λ i. answered i.result value c))

-- the row of a return from a state's frame
abbrev pub row_return : Program → Option ℕ → State → Row
row_return p value s = returned p value s.callers s

-- "ret Instruction"
unfoldable pub row_ret : Program → Option (Ty × Operand) → State → Row
row_ret p None s = row_return p None s
row_ret p (Some x) s = given stuck (argument_of p s.frame.registers x) (λ n. row_return p (Some n) s)
