-- Instructions that need something from outside: calls of externals, and calls through pointers.
use Rattle.std.specs.Prelude.{ℕ, ◌+◌, ◌*◌, ◌^◌, ◌<◌, ◌≤◌, ◌≡◌, ◌⊎◌, Bool, true, false, Option, Some, None, List, [], ◌∷◌, ◌++◌, drop, length, map, slice_get, slice_range, slice_set}
use Rattle.no_ir.specs.declared.ending.End.TheVariants as end
use Rattle.no_ir.specs.declared.function.Function.{Function}
use Rattle.no_ir.specs.declared.function.Module.{Module}
use Rattle.no_ir.specs.declared.function.Role.{Role}
use Rattle.no_heap.specs.declared.block.Block.{Block}
use Rattle.no_layout.specs.Memory.{Agrees}
use Rattle.no_layout.specs.declared.memory.Regions.{Regions}
use Rattle.no_lib.specs.Answers.{Means, seen}
use Rattle.no_semantics.specs.Externals.{external_effect}
use Rattle.no_ir.specs.declared.ending.Trap.TheVariants.{BadFunction}
use Rattle.no_ir.specs.declared.function.Block as Block'
use Rattle.no_ir.specs.declared.instruction.Instr.{Instr}
use Rattle.no_semantics.specs.Registers.{given}
use Rattle.no_semantics.specs.Calls.{addressed_from, mapped}
use Rattle.no_semantics.specs.Results.{Valued, Number, Traps, NoValue, lowered, stack_place}
use Rattle.no_semantics.specs.States.{State, block_in}
use Rattle.no_code.specs.declared.code.Code.{Code}
use Rattle.no_code.specs.declared.code.Place.{Place}
use Rattle.no_machine.specs.Calling.{Called, IsReadyCall, IsUntouched, argument_in, given_at}
use Rattle.no_lib.specs.declared.answer.LibAnswer.{LibAnswer}
use Rattle.no_lib.specs.declared.answer.LibAnswer.TheVariants as answer
use Rattle.no_lib.specs.declared.env.Env.{Env}
use Rattle.no_module.specs.declared.external.External.{External}
use Rattle.no_module.specs.declared.external.External.TheVariants as external
use Rattle.no_module.specs.Externals.{external_of}
use Rattle.no_semantics.specs.Rows.{Row, Calling, Goes, Ends, Stuck, needed}
use Rattle.no_semantics.specs.Spans.{AreHeld, IsLowestAbsent}
use Rattle.no_semantics.specs.Values.{Program}
use Rattle.no_machine.specs.Standing.{Stands}
use Rattle.no_machine.specs.declared.frame.Saved.{Saved}
use Rattle.no_machine.specs.declared.turn.Stop.TheVariants as stop
use Rattle.no_machine.specs.declared.turn.Turn.{Turn}
use Rattle.no_machine.specs.declared.turn.Turn.TheVariants as turn
use Rattle.no_machine.specs.declared.out.Out.{Out}
use Rattle.no_machine.specs.declared.out.Out.TheVariants as out

-- for each function which external it is, if it is one
abbrev pub AreExternals : Module → Role → List (Option External) → Type 0
AreExternals m role externals = (k : ℕ) (g : Function) → slice_get m.functions k ≡ Some g → slice_get externals k ≡ Some (external_of role g)

-- one that touches no more than memory, heap, input and output
abbrev pub IsOfLibrary : External → Type 0
IsOfLibrary external.Alloca = ⊥
IsOfLibrary external.Map = ⊥
IsOfLibrary _ = Unit {0}

-- ---- what a call of the library does

-- what comes behind a cell, by the library's answer
abbrev pub out_of : LibAnswer → ℕ → ℕ → Out
out_of (answer.Value v cost) at base = out.On (at + 1) base cost
out_of (answer.Nothing cost) at base = out.On (at + 1) base cost
out_of (answer.Exited status) at base = out.Exited status
out_of (answer.Trapped t) at base = out.Trapped t
out_of answer.Over at base = out.Over
out_of answer.Stuck at base = out.Stuck
out_of (answer.WantPage page) at base = out.WantPage page
out_of answer.WantInput at base = out.WantInput
out_of answer.NoMemory at base = out.NoMemory

-- the value that it gives, if it does
abbrev pub value_of : LibAnswer → Option ℕ
value_of (answer.Value v cost) = Some v
value_of _ = None

-- ---- what an instruction did, beside its row within a budget

-- what a machine has beside slots: pages, bytes, blocks, and the environment before and after
pub record Around : Type 0 where
  pub held : ℕ → Bool
  pub byte : ℕ → ℕ
  pub after : ℕ → ℕ
  pub heap : List Block
  pub heap_after : List Block
  pub env : Env
  pub env_after : Env

-- nothing changed beside slots
pub record IsCalm (a : Around) : Type 0 where
  pub bytes : a.after ≡ a.byte
  pub blocks : a.heap_after ≡ a.heap
  pub rest : a.env_after.input ≡ a.env.input
  pub wrote : a.env_after.output.items ≡ a.env.output.items

-- it was done, and the machine stands for the state that follows
pub record HasWent (p : Program) (at base cost sp : ℕ) (slots : List ℕ) (frames : List Saved) (a : Around) (more : List ℕ) (row : Row) : Type 0 where
  pub state : State
  pub output : List ℕ
  pub call : Option Calling
  pub next : row.next ≡ Goes output call state
  pub costs : row.cost ≡ cost
  pub stands : Stands p at base sp slots frames state
  pub blocks : state.heap ≡ a.heap_after
  pub rest : state.input ≡ a.env_after.input ++ more
  pub wrote : a.env_after.output.items ≡ a.env.output.items ++ output
  pub agrees : Agrees a.held a.after state.byte
  pub present : AreHeld a.held (needed row)

-- the machine stands where it stood
pub record IsCalmly (p : Program) (at base sp : ℕ) (slots : List ℕ) (frames : List Saved) (a : Around) (s : State) : Type 0 where
  pub stands : Stands p at base sp slots frames s
  pub calm : IsCalm a

-- by the answer: of a state, with more input to come, at this row
abbrev pub Outs : Program → Out → ℕ → ℕ → ℕ → List ℕ → List Saved → Around → List ℕ → State → Row → Type 0
Outs p (out.On to there cost) at base sp slots frames a more s row = HasWent p to there cost sp slots frames a more row
Outs p (out.Exited status) at base sp slots frames a more s row = (row.next ≡ Ends (end.Exited status)) × (row.cost ≡ 1) × AreHeld a.held row.sought × IsCalmly p at base sp slots frames a s
Outs p (out.Trapped t) at base sp slots frames a more s row = (row.next ≡ Ends (end.Trapped t)) × (row.cost ≡ 1) × AreHeld a.held row.sought × IsCalmly p at base sp slots frames a s
Outs p out.Over at base sp slots frames a more s row = (row.next ≡ Ends end.Unfinished) × (row.cost ≡ 0) × AreHeld a.held row.sought × IsCalmly p at base sp slots frames a s
Outs p out.Stuck at base sp slots frames a more s row = row.next ≡ Stuck
Outs p (out.WantPage page) at base sp slots frames a more s row = IsLowestAbsent a.held (needed row) page × IsCalmly p at base sp slots frames a s
Outs p out.WantInput at base sp slots frames a more s row = (row.asks ≡ true) × (a.env.input ≡ []) × (a.env.ended ≡ false) × IsCalmly p at base sp slots frames a s
Outs p out.Grow at base sp slots frames a more s row = IsCalmly p at base sp slots frames a s
Outs p out.NoMemory at base sp slots frames a more s row = IsCalmly p at base sp slots frames a s

-- ---- a call of the library

-- the library answered a call, and its value was written
pub record IsServed (which : External) (r : Regions) (held own owns held_after : ℕ → Bool) (r_after : Regions) (a : Around) (numbers : List ℕ) (left at base into : ℕ) (slots new : List ℕ) (result : Out) : Type 0 where
  pub told : LibAnswer
  pub means : Means which (external_effect r which numbers left) told (seen r held own a.byte a.heap a.env) (seen r_after held_after owns a.after a.heap_after a.env_after)
  pub is : result ≡ out_of told at base
  pub given : new ≡ given_at (value_of told) (base + into) slots

-- the library answered a call, or there was no memory for the arguments
abbrev pub Serves : External → Regions → (ℕ → Bool) → (ℕ → Bool) → (ℕ → Bool) → (ℕ → Bool) → Regions → Around → List ℕ → ℕ → ℕ → ℕ → ℕ → List ℕ → List ℕ → Out → Type 0
Serves which r held own owns held_after r_after a numbers left at base into slots new result =
    IsServed which r held own owns held_after r_after a numbers left at base into slots new result ⊎ ((result ≡ out.NoMemory) × (new ≡ slots) × IsCalm a)

-- ---- a call of a function, defined or not

-- what a call of function f needs
pub record IsReadyInvoke (code : Code) (declared : List Bool) (externals : List (Option External)) (slots : List ℕ) (at base into f from to : ℕ) : Type 0 where
  pub inside : base ≤ length slots
  pub next : at + 1 < 2 ^ 64
  pub call : IsReadyCall code declared (drop base slots) at f from to
  pub entry : Option External
  pub entry_is : slice_get externals f ≡ Some entry
  pub place : base + into < length slots

-- what comes of a call of a defined function
abbrev pub out_of_turn : Turn → Out
out_of_turn (turn.On at base) = out.On at base 1
out_of_turn (turn.Halt _ _ stop.Grow) = out.Grow
out_of_turn (turn.Halt _ _ (stop.Trapped t)) = out.Trapped t
out_of_turn (turn.Halt _ _ _) = out.NoMemory

-- slots, what is kept of callers and the stack pointer, before and after
pub record Stack : Type 0 where
  pub slots : List ℕ
  pub new : List ℕ
  pub frames : List Saved
  pub now : List Saved
  pub sp : ℕ
  pub after : ℕ

-- neither slots nor callers nor stack pointer have changed
abbrev pub IsUntouchedStack : Stack → Type 0
IsUntouchedStack k = IsUntouched k.slots k.new k.frames k.now k.sp k.after

-- what came of a call of a defined function; memory and environment stay
pub record HasCalledOne (code : Code) (declared : List Bool) (at base into f from to : ℕ) (k : Stack) (a : Around) (result : Out) : Type 0 where
  pub answer : Turn
  pub is : result ≡ out_of_turn answer
  pub called : (r : IsReadyCall code declared (drop base k.slots) at f from to) → Called answer code r.outside r.home r.callee at base into from to k.slots k.new k.frames k.now k.sp k.after
  pub calm : IsCalm a

-- ---- the two of a server's part

-- the place below so many times so many bytes of an alignment, where these are the arguments
abbrev pub room_value : ℕ → List ℕ → Valued
room_value sp (n ∷ size ∷ align ∷ []) = stack_place (lowered sp (n * size) align)
room_value sp _ = NoValue

-- the number to call for an address of the device, where this is the argument
abbrev pub map_value : List Function → List ℕ → Valued
map_value functions (at ∷ []) = Number (mapped (addressed_from 0 functions at))
map_value functions _ = NoValue

-- a number became the result of the call of a cell, and this stack pointer comes then
pub record HasYielded (value : Valued) (sp_after : ℕ → ℕ) (at base place to there cost : ℕ) (k : Stack) : Type 0 where
  pub number : ℕ
  pub is : value ≡ Number number
  pub next : to ≡ at + 1
  pub same_base : there ≡ base
  pub one : cost ≡ 1
  pub given : k.new ≡ slice_set k.slots place number
  pub same_frames : k.now ≡ k.frames
  pub stack : k.after ≡ sp_after number

-- what an external did that gives a value, by its answer
abbrev pub Yields : Valued → (ℕ → ℕ) → ℕ → ℕ → ℕ → Stack → Out → Type 0
Yields value sp_after at base place k (out.On to there cost) = HasYielded value sp_after at base place to there cost k
Yields value sp_after at base place k (out.Trapped t) = (value ≡ Traps t) × IsUntouchedStack k
Yields value sp_after at base place k out.Stuck = value ≡ NoValue
Yields value sp_after at base place k out.NoMemory = IsUntouchedStack k
Yields value sp_after at base place k _ = ⊥

-- what a call of an external did, by what the external is
abbrev pub DoesExternal : Option External → List Function → Regions → Regions → (ℕ → Bool) → (ℕ → Bool) → (ℕ → Bool) → (ℕ → Bool) → Code → ℕ → ℕ → ℕ → ℕ → ℕ → ℕ → Stack → Around → Out → Type 0
DoesExternal None functions r q held held' own own' code left at base into from to k a result = result ≡ out.Stuck
DoesExternal (Some external.Alloca) functions r q held held' own own' code left at base into from to k a result =
    IsCalm a × Yields (room_value k.sp (map (argument_in (drop base k.slots) code.constants) (slice_range code.arguments from to))) (λ n. n) at base (base + into) k result
DoesExternal (Some external.Map) functions r q held held' own own' code left at base into from to k a result =
    IsCalm a × Yields (map_value functions (map (argument_in (drop base k.slots) code.constants) (slice_range code.arguments from to))) (λ n. k.sp) at base (base + into) k result
DoesExternal (Some which) functions r q held held' own own' code left at base into from to k a result =
    (k.now ≡ k.frames) × (k.after ≡ k.sp) × Serves which r held own own' held' q a (map (argument_in (drop base k.slots) code.constants) (slice_range code.arguments from to)) left at base into k.slots k.new result

-- what a call did, by whether the function is declared
abbrev pub Invoked : Bool → Option External → List Function → Regions → Regions → (ℕ → Bool) → (ℕ → Bool) → (ℕ → Bool) → (ℕ → Bool) → Code → List Bool → ℕ → ℕ → ℕ → ℕ → ℕ → ℕ → ℕ → Stack → Around → Out → Type 0
Invoked false entry functions r q held held' own own' code declared left at base into f from to k a result = HasCalledOne code declared at base into f from to k a result
Invoked true entry functions r q held held' own own' code declared left at base into f from to k a result = DoesExternal entry functions r q held held' own own' code left at base into from to k a result

-- ---- calls through pointers

-- a function that may be called so, or the trap that comes in its place
abbrev pub reach_of : Option ℕ → Valued
reach_of None = Traps BadFunction
reach_of (Some k) = Number k

-- the instruction of a place
abbrev pub instr_of : Module → Place → Option Instr
instr_of m place = given None (block_in m place.function place.block) (λ (b : Block'.Block). slice_get b.instrs place.at)

-- where the machine stands behind an instruction: where it leads if it was done, and where it stood if not
abbrev pub Placed : Out → ℕ → ℕ → ℕ → ℕ → Type 0
Placed (out.On to there cost) at base new_at new_base = (new_at ≡ to) × (new_base ≡ there)
Placed _ at base new_at new_base = (new_at ≡ at) × (new_base ≡ base)
