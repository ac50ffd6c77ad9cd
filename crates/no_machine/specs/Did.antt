-- What a cell needs of the window of its frame, and what it does to it.
use Rattle.std.specs.Prelude.{ℕ, ◌+◌, ◌*◌, ◌%◌, ◌^◌, ◌<◌, ◌≤◌, ◌≡◌, ◌==◌, if◌then◌else◌, Bool, true, false, Some, None, Result, Ok, Err, List, [], ◌∷◌, map, length, slice_get, slice_range, slice_set}
use Rattle.no_ir.specs.declared.ending.Trap.{Trap}
use Rattle.no_ir.specs.declared.ending.Trap.TheVariants as trap
use Rattle.no_ir.specs.declared.instruction.BinOp.{BinOp}
use Rattle.no_ir.specs.declared.instruction.BinOp.TheVariants as bin
use Rattle.no_ir.specs.declared.instruction.Pred.{Pred}
use Rattle.no_ir.specs.declared.instruction.Pred.TheVariants as pred
use Rattle.no_ir.specs.declared.instruction.CastOp.{CastOp}
use Rattle.no_ir.specs.declared.instruction.CastOp.TheVariants as cast
use Rattle.no_eval.specs.Binary.{binary_of}
use Rattle.no_eval.specs.Compare.{compare_of}
use Rattle.no_eval.specs.Cast.{cast_of, GoesBetween}
use Rattle.no_layout.specs.Memory.{access, read_number, write_number}
use Rattle.no_layout.specs.declared.memory.Access.TheVariants as access'
use Rattle.no_layout.specs.declared.memory.Regions.{Regions}
use Rattle.no_semantics.specs.Results.{bit, lowered}
use Rattle.no_semantics.specs.Sound.{is_width}
use Rattle.no_semantics.specs.Values.{bytes_of_width, extended}
use Rattle.no_code.specs.declared.code.Case.{Case}
use Rattle.no_code.specs.declared.code.Cell.{Cell}
use Rattle.no_code.specs.declared.code.Cell.TheVariants as cell
use Rattle.no_code.specs.declared.code.Code.{Code}
use Rattle.no_code.specs.declared.code.Edge.{Edge}
use Rattle.no_code.specs.declared.code.Move.{Move}
use Rattle.no_code.specs.declared.code.Step.{Step}
use Rattle.no_code.specs.declared.code.Step.TheVariants as step
use Rattle.no_machine.specs.Slots.{IsSlotIn, IsNumber, value_in}
use Rattle.no_machine.specs.declared.did.Did.{Did}
use Rattle.no_machine.specs.declared.did.Did.TheVariants as did

-- ---- values

-- a number was written, or a trap came in its place
abbrev pub Gave : Result ℕ Trap → ℕ → List ℕ → List ℕ → Did → Type 0
Gave (Ok n) into old new d = (d ≡ did.Next) × (new ≡ slice_set old into n)
Gave (Err t) into old new d = (d ≡ did.Trapped t) × (new ≡ old)

-- a number was written
abbrev pub Wrote : ℕ → ℕ → List ℕ → List ℕ → Did → Type 0
Wrote n into old new d = (d ≡ did.Next) × (new ≡ slice_set old into n)

-- two operands of w bits and a result
pub record IsReadyBinary (window constants : List ℕ) (w into x y : ℕ) : Type 0 where
  pub some : 0 < w
  pub most : w ≤ 64
  pub left : IsNumber window constants w x
  pub right : IsNumber window constants w y
  pub result : into < length window

-- an operand of w bits, a width that the conversion goes to, and a result
pub record IsReadyCast (window constants : List ℕ) (o : CastOp) (w v into x : ℕ) : Type 0 where
  pub some : 0 < w
  pub most : w ≤ 64
  pub some_to : 0 < v
  pub most_to : v ≤ 64
  pub between : GoesBetween o w v
  pub operand : IsNumber window constants w x
  pub result : into < length window

-- an operand and a result
pub record IsReadyCopy (window constants : List ℕ) (into x : ℕ) : Type 0 where
  pub operand : IsSlotIn window constants x
  pub result : into < length window

-- a condition, two operands and a result
pub record IsReadySelect (window constants : List ℕ) (into z x y : ℕ) : Type 0 where
  pub condition : IsSlotIn window constants z
  pub left : IsSlotIn window constants x
  pub right : IsSlotIn window constants y
  pub result : into < length window

-- ---- memory

-- a width that integers have, an address and a result
pub record IsReadyLoad (window constants : List ℕ) (w into x : ℕ) : Type 0 where
  pub width : is_width w ≡ true
  pub address : IsSlotIn window constants x
  pub result : into < length window

-- what a load of w bits at an address did, by its answer
abbrev pub Loads : Regions → (ℕ → Bool) → (ℕ → ℕ) → Bool → ℕ → ℕ → ℕ → List ℕ → List ℕ → Did → Type 0
Loads r held byte big w at into old new did.Next = (access r held false at (bytes_of_width w) ≡ access'.Done) × (new ≡ slice_set old into (read_number big byte at (bytes_of_width w) % 2 ^ w))
Loads r held byte big w at into old new (did.WantPage page) = (access r held false at (bytes_of_width w) ≡ access'.Missing page) × (new ≡ old)
Loads r held byte big w at into old new (did.Trapped t) = (access r held false at (bytes_of_width w) ≡ access'.Refused t) × (new ≡ old)
Loads r held byte big w at into old new _ = ⊥

-- a width that integers have, a value of so many bits, and an address
pub record IsReadyStore (window constants : List ℕ) (w y x : ℕ) : Type 0 where
  pub width : is_width w ≡ true
  pub value : IsNumber window constants w y
  pub address : IsSlotIn window constants x

-- what a store of w bits at an address did, by its answer
abbrev pub Stores : Regions → (ℕ → Bool) → (ℕ → ℕ) → (ℕ → ℕ) → Bool → ℕ → ℕ → ℕ → Did → Type 0
Stores r held byte after big w at n did.Next = (access r held true at (bytes_of_width w) ≡ access'.Done) × (after ≡ write_number big byte at (bytes_of_width w) n)
Stores r held byte after big w at n (did.WantPage page) = (access r held true at (bytes_of_width w) ≡ access'.Missing page) × (after ≡ byte)
Stores r held byte after big w at n (did.Trapped t) = (access r held true at (bytes_of_width w) ≡ access'.Refused t) × (after ≡ byte)
Stores r held byte after big w at n did.NoMemory = after ≡ byte
Stores r held byte after big w at n _ = ⊥

-- a count, an alignment and a result
pub record IsReadyAlloca (window constants : List ℕ) (into x align : ℕ) : Type 0 where
  pub count : IsSlotIn window constants x
  pub some : 0 < align
  pub result : into < length window

-- what an alloca of so many bytes did, by its answer
abbrev pub Allocates : ℕ → ℕ → ℕ → ℕ → List ℕ → List ℕ → ℕ → Did → Type 0
Allocates sp bytes align into old new after did.Next = (lowered sp bytes align ≡ Some after) × (new ≡ slice_set old into after)
Allocates sp bytes align into old new after (did.Trapped t) = (lowered sp bytes align ≡ None) × (t ≡ trap.StackOverflow) × (new ≡ old) × (after ≡ sp)
Allocates sp bytes align into old new after _ = ⊥

-- ---- addresses

-- how far steps lead, at pointers of so many bits
abbrev pub leads : List ℕ → List ℕ → ℕ → List Step → ℕ
leads window constants pointer [] = 0
leads window constants pointer (step.Index w x stride ∷ more) = extended w pointer (value_in window constants x) * stride + leads window constants pointer more
leads window constants pointer (step.Field offset ∷ more) = offset + leads window constants pointer more

-- an index holds a number of its width
abbrev pub IsReadyStep : List ℕ → List ℕ → Step → Type 0
IsReadyStep window constants (step.Index w x stride) = (0 < w) × (w ≤ 64) × IsNumber window constants w x
IsReadyStep window constants (step.Field offset) = Unit {0}

-- a base address, a range of the table's steps, each ready, and a result
pub record IsReadyGep (window constants : List ℕ) (code : Code) (pointer into x from to : ℕ) : Type 0 where
  pub some : 0 < pointer
  pub most : pointer ≤ 64
  pub base : IsSlotIn window constants x
  pub ordered : from ≤ to
  pub within : to ≤ length code.steps
  pub each : (k : ℕ) (one : Step) → slice_get (slice_range code.steps from to) k ≡ Some one → IsReadyStep window constants one
  pub result : into < length window

-- ---- edges

-- the slot that a move writes, and the number that it writes there
abbrev pub read_move : List ℕ → List ℕ → Move → ℕ × ℕ
read_move window constants v = (v.into, value_in window constants v.from)

-- the slots after all of these were written, in order
abbrev pub write_all : List (ℕ × ℕ) → List ℕ → List ℕ
write_all [] slots = slots
write_all (w ∷ ws) slots = write_all ws (slice_set slots w.0 w.1)

-- all slots are read at once, and then written
abbrev pub moved : List Move → List ℕ → List ℕ → List ℕ
moved moves constants window = write_all (map (read_move window constants) moves) window

-- whether there was memory for moves
abbrev pub Moves : Bool → List Move → List ℕ → List ℕ → List ℕ → Type 0
Moves true moves constants old new = new ≡ moved moves constants old
Moves false moves constants old new = new ≡ old

-- a slot to write in the window, and one to read
abbrev pub IsReadyMove : List ℕ → List ℕ → Move → Type 0
IsReadyMove window constants v = (v.into < length window) × IsSlotIn window constants v.from

-- an edge that the table has, with a range of the table's moves, each ready
pub record IsReadyEdge (window constants : List ℕ) (code : Code) (e : ℕ) : Type 0 where
  pub edge : Edge
  pub is : slice_get code.edges e ≡ Some edge
  pub ordered : edge.from ≤ edge.to
  pub within : edge.to ≤ length code.moves
  pub each : (k : ℕ) (v : Move) → slice_get (slice_range code.moves edge.from edge.to) k ≡ Some v → IsReadyMove window constants v

-- what a branch along an edge did, by its answer
abbrev pub Takes : List ℕ → Code → ℕ → List ℕ → List ℕ → Did → Type 0
Takes constants code e old new (did.To target) = (edge : Edge) × (slice_get code.edges e ≡ Some edge) × (target ≡ edge.target) × (new ≡ moved (slice_range code.moves edge.from edge.to) constants old)
Takes constants code e old new did.NoMemory = new ≡ old
Takes constants code e old new _ = ⊥

-- the edge of the first case that equals, and else the default
abbrev pub case_edge : ℕ → ℕ → List Case → ℕ
case_edge x e [] = e
case_edge x e (c ∷ more) = if c.number == x then c.edge else case_edge x e more

-- an operand, a range of the table's cases, and the edge that the operand chooses
pub record IsReadySwitch (window constants : List ℕ) (code : Code) (x e from to : ℕ) : Type 0 where
  pub operand : IsSlotIn window constants x
  pub ordered : from ≤ to
  pub within : to ≤ length code.cases
  pub edge : IsReadyEdge window constants code (case_edge (value_in window constants x) e (slice_range code.cases from to))

-- an operand, and the edge that it chooses
pub record IsReadyCondBr (window constants : List ℕ) (code : Code) (x e f : ℕ) : Type 0 where
  pub operand : IsSlotIn window constants x
  pub edge : IsReadyEdge window constants code (if value_in window constants x == 1 then e else f)

-- ---- all cells

-- what a cell needs, at pointers of so many bits
abbrev pub IsReady : ℕ → Code → List ℕ → Cell → Type 0
IsReady P code window (cell.Add w into x y) = IsReadyBinary window code.constants w into x y
IsReady P code window (cell.Sub w into x y) = IsReadyBinary window code.constants w into x y
IsReady P code window (cell.Mul w into x y) = IsReadyBinary window code.constants w into x y
IsReady P code window (cell.UDiv w into x y) = IsReadyBinary window code.constants w into x y
IsReady P code window (cell.URem w into x y) = IsReadyBinary window code.constants w into x y
IsReady P code window (cell.SDiv w into x y) = IsReadyBinary window code.constants w into x y
IsReady P code window (cell.SRem w into x y) = IsReadyBinary window code.constants w into x y
IsReady P code window (cell.Shl w into x y) = IsReadyBinary window code.constants w into x y
IsReady P code window (cell.LShr w into x y) = IsReadyBinary window code.constants w into x y
IsReady P code window (cell.AShr w into x y) = IsReadyBinary window code.constants w into x y
IsReady P code window (cell.And w into x y) = IsReadyBinary window code.constants w into x y
IsReady P code window (cell.Or w into x y) = IsReadyBinary window code.constants w into x y
IsReady P code window (cell.Xor w into x y) = IsReadyBinary window code.constants w into x y
IsReady P code window (cell.Eq w into x y) = IsReadyBinary window code.constants w into x y
IsReady P code window (cell.Ne w into x y) = IsReadyBinary window code.constants w into x y
IsReady P code window (cell.Ugt w into x y) = IsReadyBinary window code.constants w into x y
IsReady P code window (cell.Uge w into x y) = IsReadyBinary window code.constants w into x y
IsReady P code window (cell.Ult w into x y) = IsReadyBinary window code.constants w into x y
IsReady P code window (cell.Ule w into x y) = IsReadyBinary window code.constants w into x y
IsReady P code window (cell.Sgt w into x y) = IsReadyBinary window code.constants w into x y
IsReady P code window (cell.Sge w into x y) = IsReadyBinary window code.constants w into x y
IsReady P code window (cell.Slt w into x y) = IsReadyBinary window code.constants w into x y
IsReady P code window (cell.Sle w into x y) = IsReadyBinary window code.constants w into x y
IsReady P code window (cell.Trunc w v into x) = IsReadyCast window code.constants cast.Trunc w v into x
IsReady P code window (cell.ZExt w v into x) = IsReadyCast window code.constants cast.ZExt w v into x
IsReady P code window (cell.SExt w v into x) = IsReadyCast window code.constants cast.SExt w v into x
IsReady P code window (cell.PtrToInt w v into x) = IsReadyCast window code.constants cast.PtrToInt w v into x
IsReady P code window (cell.IntToPtr w v into x) = IsReadyCast window code.constants cast.IntToPtr w v into x
IsReady P code window (cell.BitCast w v into x) = IsReadyCast window code.constants cast.BitCast w v into x
IsReady P code window (cell.Copy into x) = IsReadyCopy window code.constants into x
IsReady P code window (cell.Select into z x y) = IsReadySelect window code.constants into z x y
IsReady P code window (cell.Alloca into x stride align) = IsReadyAlloca window code.constants into x align
IsReady P code window (cell.Load w into x) = IsReadyLoad window code.constants w into x
IsReady P code window (cell.Store w y x) = IsReadyStore window code.constants w y x
IsReady P code window (cell.Gep into x from to) = IsReadyGep window code.constants code P into x from to
IsReady P code window (cell.Br e) = IsReadyEdge window code.constants code e
IsReady P code window (cell.CondBr x e f) = IsReadyCondBr window code.constants code x e f
IsReady P code window (cell.Switch x e from to) = IsReadySwitch window code.constants code x e from to
IsReady P code window cell.Nothing = ⊥
IsReady P code window cell.Phi = ⊥
IsReady P code window _ = Unit {0}

-- memory's bytes and the stack pointer before and after
pub record Beside : Type 0 where
  pub regions : Regions
  pub held : ℕ → Bool
  pub byte : ℕ → ℕ
  pub after : ℕ → ℕ
  pub sp : ℕ
  pub sp_after : ℕ

-- neither has changed
abbrev pub IsAside : Beside → Type 0
IsAside b = (b.after ≡ b.byte) × (b.sp_after ≡ b.sp)

-- what a slot holds, of a window or of the code's constants
abbrev pub value_at : Code → List ℕ → ℕ → ℕ
value_at code window x = value_in window code.constants x

-- a binary operator gave its number or its trap; memory and stack pointer stay
abbrev pub Combines : BinOp → Code → ℕ → ℕ → ℕ → ℕ → Beside → List ℕ → List ℕ → Did → Type 0
Combines o code w into x y b old new d = IsAside b × Gave (binary_of o w (value_at code old x) (value_at code old y)) into old new d

-- a comparison gave its bit; memory and stack pointer stay
abbrev pub Compares : Pred → Code → ℕ → ℕ → ℕ → ℕ → Beside → List ℕ → List ℕ → Did → Type 0
Compares o code w into x y b old new d = IsAside b × Wrote (bit (compare_of o w (value_at code old x) (value_at code old y))) into old new d

-- a conversion gave its number; memory and stack pointer stay
abbrev pub Converts : CastOp → Code → ℕ → ℕ → ℕ → ℕ → Beside → List ℕ → List ℕ → Did → Type 0
Converts o code w v into x b old new d = IsAside b × Wrote (cast_of o w v (value_at code old x)) into old new d

-- what a cell did, in a layout of this order and pointers of so many bits
abbrev pub Acted : Bool → ℕ → Code → Beside → List ℕ → List ℕ → Did → Cell → Type 0
Acted big P code b old new d (cell.Add w into x y) = Combines bin.Add code w into x y b old new d
Acted big P code b old new d (cell.Sub w into x y) = Combines bin.Sub code w into x y b old new d
Acted big P code b old new d (cell.Mul w into x y) = Combines bin.Mul code w into x y b old new d
Acted big P code b old new d (cell.UDiv w into x y) = Combines bin.UDiv code w into x y b old new d
Acted big P code b old new d (cell.URem w into x y) = Combines bin.URem code w into x y b old new d
Acted big P code b old new d (cell.SDiv w into x y) = Combines bin.SDiv code w into x y b old new d
Acted big P code b old new d (cell.SRem w into x y) = Combines bin.SRem code w into x y b old new d
Acted big P code b old new d (cell.Shl w into x y) = Combines bin.Shl code w into x y b old new d
Acted big P code b old new d (cell.LShr w into x y) = Combines bin.LShr code w into x y b old new d
Acted big P code b old new d (cell.AShr w into x y) = Combines bin.AShr code w into x y b old new d
Acted big P code b old new d (cell.And w into x y) = Combines bin.And code w into x y b old new d
Acted big P code b old new d (cell.Or w into x y) = Combines bin.Or code w into x y b old new d
Acted big P code b old new d (cell.Xor w into x y) = Combines bin.Xor code w into x y b old new d
Acted big P code b old new d (cell.Eq w into x y) = Compares pred.Eq code w into x y b old new d
Acted big P code b old new d (cell.Ne w into x y) = Compares pred.Ne code w into x y b old new d
Acted big P code b old new d (cell.Ugt w into x y) = Compares pred.Ugt code w into x y b old new d
Acted big P code b old new d (cell.Uge w into x y) = Compares pred.Uge code w into x y b old new d
Acted big P code b old new d (cell.Ult w into x y) = Compares pred.Ult code w into x y b old new d
Acted big P code b old new d (cell.Ule w into x y) = Compares pred.Ule code w into x y b old new d
Acted big P code b old new d (cell.Sgt w into x y) = Compares pred.Sgt code w into x y b old new d
Acted big P code b old new d (cell.Sge w into x y) = Compares pred.Sge code w into x y b old new d
Acted big P code b old new d (cell.Slt w into x y) = Compares pred.Slt code w into x y b old new d
Acted big P code b old new d (cell.Sle w into x y) = Compares pred.Sle code w into x y b old new d
Acted big P code b old new d (cell.Trunc w v into x) = Converts cast.Trunc code w v into x b old new d
Acted big P code b old new d (cell.ZExt w v into x) = Converts cast.ZExt code w v into x b old new d
Acted big P code b old new d (cell.SExt w v into x) = Converts cast.SExt code w v into x b old new d
Acted big P code b old new d (cell.PtrToInt w v into x) = Converts cast.PtrToInt code w v into x b old new d
Acted big P code b old new d (cell.IntToPtr w v into x) = Converts cast.IntToPtr code w v into x b old new d
Acted big P code b old new d (cell.BitCast w v into x) = Converts cast.BitCast code w v into x b old new d
Acted big P code b old new d (cell.Copy into x) = IsAside b × Wrote (value_at code old x) into old new d
Acted big P code b old new d (cell.Select into z x y) = IsAside b × Wrote (if value_at code old z == 1 then value_at code old x else value_at code old y) into old new d
Acted big P code b old new d (cell.Alloca into x stride align) = (b.after ≡ b.byte) × Allocates b.sp (value_at code old x * stride) align into old new b.sp_after d
Acted big P code b old new d (cell.Load w into x) = IsAside b × Loads b.regions b.held b.byte big w (value_at code old x) into old new d
Acted big P code b old new d (cell.Store w y x) = (b.sp_after ≡ b.sp) × (new ≡ old) × Stores b.regions b.held b.byte b.after big w (value_at code old x) (value_at code old y) d
Acted big P code b old new d (cell.Gep into x from to) = IsAside b × Wrote ((value_at code old x + leads old code.constants P (slice_range code.steps from to)) % 2 ^ P) into old new d
Acted big P code b old new d (cell.Br e) = IsAside b × Takes code.constants code e old new d
Acted big P code b old new d (cell.CondBr x e f) = IsAside b × Takes code.constants code (if value_at code old x == 1 then e else f) old new d
Acted big P code b old new d (cell.Switch x e from to) = IsAside b × Takes code.constants code (case_edge (value_at code old x) e (slice_range code.cases from to)) old new d
Acted big P code b old new d cell.Unreachable = IsAside b × (d ≡ did.Trapped trap.Unreachable) × (new ≡ old)
Acted big P code b old new d (cell.Call into f from to) = IsAside b × (d ≡ did.Calls into f from to) × (new ≡ old)
Acted big P code b old new d (cell.CallAt into from to) = IsAside b × (d ≡ did.CallsAt into from to) × (new ≡ old)
Acted big P code b old new d (cell.Ret x) = IsAside b × (d ≡ did.Returns x) × (new ≡ old)
Acted big P code b old new d cell.Leave = IsAside b × (d ≡ did.Leaves) × (new ≡ old)
Acted big P code b old new d _ = ⊥
