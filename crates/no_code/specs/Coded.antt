-- What instruction a cell is of.
use Rattle.std.specs.Prelude.{ℕ, zero, suc, ◌+◌, ◌-◌, ◌^◌, ◌<◌, ◌≤◌, ◌≡◌, ◌==◌, Bool, true, false, if◌then◌else◌, Option, Some, None, List, [], ◌∷◌, ◌++◌, length, slice_get, slice_range}
use Rattle.no_ir.specs.declared.types.Ty.{Ty, out-Ty}
use Rattle.no_ir.specs.declared.types.Ty.TheOpen.{Ty-F}
use Rattle.no_ir.specs.declared.constant.Const.{Const}
use Rattle.no_ir.specs.declared.constant.Const.TheVariants as const
use Rattle.no_ir.specs.declared.constant.Symbol.{Symbol}
use Rattle.no_ir.specs.declared.constant.Symbol.TheVariants as symbol
use Rattle.no_ir.specs.declared.instruction.BinOp.{BinOp}
use Rattle.no_ir.specs.declared.instruction.BinOp.TheVariants as bin
use Rattle.no_ir.specs.declared.instruction.Pred.{Pred}
use Rattle.no_ir.specs.declared.instruction.Pred.TheVariants as pred
use Rattle.no_ir.specs.declared.instruction.CastOp.{CastOp}
use Rattle.no_ir.specs.declared.instruction.CastOp.TheVariants as cast
use Rattle.no_ir.specs.declared.instruction.Operand.{Operand}
use Rattle.no_ir.specs.declared.instruction.Operand.TheVariants as operand
use Rattle.no_ir.specs.declared.instruction.Op.{Op}
use Rattle.no_ir.specs.declared.instruction.Op.TheVariants as op
use Rattle.no_ir.specs.declared.instruction.Instr.{Instr}
use Rattle.no_ir.specs.declared.function.Block.{Block}
use Rattle.no_ir.specs.declared.function.Function.{Function}
use Rattle.no_layout.specs.Sizes.{HasField, type_align, type_stride, offset_of}
use Rattle.no_semantics.specs.Image.{stated_or}
use Rattle.no_semantics.specs.Indices.{resolved}
use Rattle.no_semantics.specs.Sound.{align_fits, field_number, known_part, type_fits}
use Rattle.no_semantics.specs.Values.{width_of}
use Rattle.no_code.specs.declared.code.Argument.{Argument}
use Rattle.no_code.specs.declared.code.Case.{Case}
use Rattle.no_code.specs.declared.code.Cell.{Cell}
use Rattle.no_code.specs.declared.code.Cell.TheVariants as cell
use Rattle.no_code.specs.declared.code.Code.{Code}
use Rattle.no_code.specs.declared.code.Edge.{Edge}
use Rattle.no_code.specs.declared.code.Kind.{Kind}
use Rattle.no_code.specs.declared.code.Kind.TheVariants as kind
use Rattle.no_code.specs.declared.code.Move.{Move}
use Rattle.no_code.specs.declared.code.Step.{Step}
use Rattle.no_code.specs.declared.code.Step.TheVariants as step
use Rattle.no_code.specs.Slots.{IsInto, IsSlot}
use Rattle.no_code.specs.Source.{Source}

-- ---- lists

-- two lists whose elements are related one by one
abbrev pub Each : {A B : Type 0} → (A → B → Type 0) → List A → List B → Type 0
Each R [] [] = Unit {0}
Each R (x ∷ xs) (y ∷ ys) = R x y × Each R xs ys
Each R _ _ = ⊥

-- a range of a table
pub record IsRange {A : Type 0} (table : List A) (from to : ℕ) (xs : List A) : Type 0 where
  pub ordered : from ≤ to
  pub within : to ≤ length table
  pub is : slice_range table from to ≡ xs

-- ---- labels, blocks and functions

-- the number of the first block of a label, among blocks of which the first has number k
abbrev pub first_from : ℕ → ℕ → List Block → Option ℕ
first_from l k [] = None
first_from l k (b ∷ bs) = if b.label == l then Some k else first_from l (k + 1) bs

-- the number of the first block of a function that has the label
abbrev pub block_of : Function → ℕ → Option ℕ
block_of g l = first_from l 0 g.blocks

-- the block of this number, where there is one
abbrev pub block_found : Function → Option ℕ → Option Block
block_found g None = None
block_found g (Some b) = slice_get g.blocks b

-- how many cells a block has: one for each instruction
abbrev pub block_size : Block → ℕ
block_size b = length b.instrs

-- the sum of the sizes of the first k of a list
abbrev pub total : {A : Type 0} → (A → ℕ) → List A → ℕ → ℕ
total size [] k = 0
total size (x ∷ xs) zero = 0
total size (x ∷ xs) (suc k) = size x + total size xs k

-- how many instructions the first b blocks have
abbrev pub before : List Block → ℕ → ℕ
before blocks b = total block_size blocks b

-- how many instructions a function has
abbrev pub size_of : Function → ℕ
size_of g = before g.blocks (length g.blocks)

-- the number of the first cell of function f: one stands before them all
abbrev pub first_cell : List Function → ℕ → ℕ
first_cell functions f = 1 + total size_of functions f

-- an instruction is a phi
abbrev pub is_phi : Op → Bool
is_phi (op.Phi t pairs) = true
is_phi _ = false

-- the phis at the head of instructions
abbrev pub phis : List Instr → List Instr
phis [] = []
phis (i ∷ is) = if is_phi i.op then i ∷ phis is else []

-- the first operand of a phi for a label
abbrev pub incoming : ℕ → List (Operand × ℕ) → Option Operand
incoming l [] = None
incoming l (pair ∷ pairs) = if pair.1 == l then Some pair.0 else incoming l pairs

-- ---- callees

-- function k, where no indices follow its name
abbrev pub bare : List Rattle.std.specs.Prelude.ℤ → ℕ → Option ℕ
bare [] k = Some k
bare (i ∷ is) k = None

-- the function that a symbol names, where no indices follow
abbrev pub symbol_named : Symbol → List Rattle.std.specs.Prelude.ℤ → Option ℕ
symbol_named (symbol.Function k) indices = bare indices k
symbol_named _ indices = None

-- the function whose bare name a constant is
abbrev pub constant_named : Const → Option ℕ
constant_named (const.Address place) = symbol_named place.symbol place.indices
constant_named _ = None

-- the function that a callee names, where it is a bare name and no other address
abbrev pub direct : Operand → Option ℕ
direct (operand.Const c) = constant_named c
direct (operand.Reg r) = None

-- the kind of a type, by its outermost layer
abbrev pub kind_step : Ty-F Ty → Kind
kind_step Ty-F.Void = kind.Void
kind_step (Ty-F.Int w) = kind.Int w
kind_step Ty-F.Ptr = kind.Ptr
kind_step _ = kind.Other

-- the kind of a parameter's, an argument's or a result's type
abbrev pub kind_of : Ty → Kind
kind_of t = kind_step (out-Ty t)

-- what is told of a type, where there is one
abbrev pub Told : Option Ty → (Ty → Type 0) → Type 0
Told None f = Unit {0}
Told (Some t) f = f t

-- ---- by a source, the number of registers of the function, and tables

module _ (s : Source) (n : ℕ) (code : Code) where
  -- the slot of an operand of w bits
  abbrev pub HasSlot : ℕ → Operand → ℕ → Type 0
  HasSlot = IsSlot s n code.constants

  -- ---- values

  -- a binary operator at w bits, with the slots of its result and of both operands
  pub record IsBinary (o : BinOp) (w into x y : ℕ) (i : Instr) : Type 0 where
    pub a : Operand
    pub b : Operand
    pub is : i.op ≡ op.Binary o w a b
    pub result : IsInto n i.result into
    pub left : HasSlot w a x
    pub right : HasSlot w b y

  -- a comparison of operands of w bits, with the slots of its result and of both operands
  pub record IsCompare (o : Pred) (w into x y : ℕ) (i : Instr) : Type 0 where
    pub t : Ty
    pub a : Operand
    pub b : Operand
    pub is : i.op ≡ op.Compare o t a b
    pub width : w ≡ width_of s.layout t
    pub result : IsInto n i.result into
    pub left : HasSlot w a x
    pub right : HasSlot w b y

  -- a conversion from w to v bits, with the slots of its result and its operand
  pub record IsCast (o : CastOp) (w v into x : ℕ) (i : Instr) : Type 0 where
    pub t : Ty
    pub a : Operand
    pub u : Ty
    pub is : i.op ≡ op.Cast o t a u
    pub width : w ≡ width_of s.layout t
    pub to : v ≡ width_of s.layout u
    pub result : IsInto n i.result into
    pub value : HasSlot w a x

  -- a freeze, with the slots of its result and its operand
  pub record IsCopy (into x : ℕ) (i : Instr) : Type 0 where
    pub t : Ty
    pub a : Operand
    pub is : i.op ≡ op.Freeze t a
    pub result : IsInto n i.result into
    pub value : HasSlot (width_of s.layout t) a x

  -- a select, with the slots of its result, its condition and both operands
  pub record IsSelect (into z x y : ℕ) (i : Instr) : Type 0 where
    pub c : Operand
    pub t : Ty
    pub a : Operand
    pub b : Operand
    pub is : i.op ≡ op.Select c t a b
    pub result : IsInto n i.result into
    pub condition : HasSlot 1 c z
    pub left : HasSlot (width_of s.layout t) a x
    pub right : HasSlot (width_of s.layout t) b y

  -- ---- memory

  -- the slot of a stated count, or that of a one
  abbrev pub IsCount : Option (ℕ × Operand) → ℕ → Type 0
  IsCount None x = HasSlot 64 (operand.Const (const.Int 1)) x
  IsCount (Some count) x = HasSlot count.0 count.1 x

  -- an alloca, with the slots of its result and its count, how far two values are apart, and the alignment
  pub record IsAlloca (into x stride align : ℕ) (i : Instr) : Type 0 where
    pub t : Ty
    pub count : Option (ℕ × Operand)
    pub stated : Option ℕ
    pub is : i.op ≡ op.Alloca t count stated
    pub result : IsInto n i.result into
    pub many : IsCount count x
    pub apart : type_fits s.layout s.sizes t ≡ true → stride ≡ type_stride s.layout s.sizes t
    pub aligned : type_fits s.layout s.sizes t ≡ true → align ≡ stated_or stated (type_align s.layout s.sizes t)
    pub some : align_fits stated ≡ true → 0 < align

  -- a load of w bits, with the slots of its result and its address
  pub record IsLoad (w into x : ℕ) (i : Instr) : Type 0 where
    pub volatile : Bool
    pub t : Ty
    pub a : Operand
    pub is : i.op ≡ op.Load volatile t a
    pub width : w ≡ width_of s.layout t
    pub result : IsInto n i.result into
    pub address : HasSlot s.layout.pointer a x

  -- a store of w bits, with the slots of its value and its address
  pub record IsStore (w y x : ℕ) (i : Instr) : Type 0 where
    pub volatile : Bool
    pub t : Ty
    pub v : Operand
    pub a : Operand
    pub is : i.op ≡ op.Store volatile t v a
    pub width : w ≡ width_of s.layout t
    pub value : HasSlot w v y
    pub address : HasSlot s.layout.pointer a x

  -- ---- addresses

  -- one index into a type, the first of which steps over whole values of it
  abbrev pub IsIndex : Ty → ℕ × Operand → Step → Type 0
  IsIndex t index (step.Index w x stride) = (w ≡ index.0) × HasSlot index.0 index.1 x × (type_fits s.layout s.sizes t ≡ true → stride ≡ type_stride s.layout s.sizes t)
  IsIndex t index (step.Field offset) = ⊥

  -- a step into field k of a struct, by the field's offset
  abbrev pub IsField : Ty → Option ℕ → Step → Type 0
  IsField t None one = Unit {0}
  IsField t (Some k) (step.Field offset) = type_fits s.layout s.sizes t ≡ true → k < 2 ^ 31 → HasField t k → offset ≡ offset_of s.layout s.sizes t k
  IsField t (Some k) (step.Index w x stride) = ⊥

  -- an index into an array or a struct
  abbrev pub IsPartStep : Ty → Ty-F Ty → ℕ × Operand → Step → Type 0
  IsPartStep t (Ty-F.Array count element) index one = IsIndex element index one
  IsPartStep t (Ty-F.Struct packed fields) index one = IsField t (field_number index) one
  IsPartStep t _ index one = Unit {0}

  -- the indices behind the first, as far as each leads somewhere
  abbrev pub AreInner : Ty → List (ℕ × Operand) → List Step → Type 0
  AreInner t [] steps = steps ≡ []
  AreInner t (index ∷ indices) steps =
      Told (known_part (out-Ty (resolved s.«module».types t)) index)
      (λ next. (one : Step) × (more : List Step) × (steps ≡ one ∷ more) × IsPartStep (resolved s.«module».types t) (out-Ty (resolved s.«module».types t)) index one × AreInner next indices more)

  -- the steps of a getelementptr: the first index over whole values, and then those inside
  abbrev pub ArePath : Ty → List (ℕ × Operand) → List Step → Type 0
  ArePath t [] steps = steps ≡ []
  ArePath t (index ∷ indices) steps = (one : Step) × (more : List Step) × (steps ≡ one ∷ more) × IsIndex t index one × AreInner t indices more

  -- a getelementptr, with the slots of its result and its base address, and the range of its steps
  pub record IsGep (into x from to : ℕ) (i : Instr) : Type 0 where
    pub t : Ty
    pub a : Operand
    pub indices : List (ℕ × Operand)
    pub steps : List Step
    pub is : i.op ≡ op.Gep t a indices
    pub result : IsInto n i.result into
    pub base : HasSlot s.layout.pointer a x
    pub range : IsRange code.steps from to steps
    pub path : ArePath t indices steps

  -- ---- calls

  -- the slot and the kind of an argument
  abbrev pub IsArgument : Ty × Operand → Argument → Type 0
  IsArgument given a = HasSlot (width_of s.layout given.0) given.1 a.slot × (a.kind ≡ kind_of given.0)

  -- a call of function f by its name, with the slot of its result and the range of its arguments
  pub record IsCall (into f from to : ℕ) (i : Instr) : Type 0 where
    pub t : Ty
    pub callee : Operand
    pub given : List (Ty × Operand)
    pub arguments : List Argument
    pub is : i.op ≡ op.Call t callee given
    pub names : direct callee ≡ Some f
    pub result : IsInto n i.result into
    pub range : IsRange code.arguments from to arguments
    pub each : Each IsArgument given arguments

  -- a call through a pointer; its range has the callee with the result's kind in front of the arguments
  pub record IsCallAt (into from to : ℕ) (i : Instr) : Type 0 where
    pub t : Ty
    pub callee : Operand
    pub given : List (Ty × Operand)
    pub x : ℕ
    pub arguments : List Argument
    pub is : i.op ≡ op.Call t callee given
    pub names : direct callee ≡ None
    pub result : IsInto n i.result into
    pub target : HasSlot s.layout.pointer callee x
    pub range : IsRange code.arguments from to (record { slot = x; kind = kind_of t } ∷ arguments)
    pub each : Each IsArgument given arguments

  -- ---- branches, in a block of this label in a function whose first cell has number base

  module _ (g : Function) (base label : ℕ) where
    -- the slot of what a phi has for this block, if it has anything
    abbrev pub IsTaken : ℕ → Option Operand → ℕ → Type 0
    IsTaken w None x = x ≤ n
    IsTaken w (Some o) x = HasSlot w o x

    -- the slot of what a phi is given on an edge from this block
    abbrev pub IsFrom : Op → ℕ → Type 0
    IsFrom (op.Phi t pairs) x = IsTaken (width_of s.layout t) (incoming label pairs) x
    IsFrom _ x = x ≤ n

    -- what a phi is given
    abbrev pub IsMove : Instr → Move → Type 0
    IsMove i v = IsInto n i.result v.into × IsFrom i.op v.from

    -- an edge to the cell that is no instruction, without moves
    abbrev pub LeadsNowhere : Edge → Type 0
    LeadsNowhere e = (e.target ≡ 0) × (e.from ≡ e.to)

    -- an edge to a block leads behind its phis, which are given what they have for this block
    abbrev pub LeadsIn : ℕ → Option Block → Edge → Type 0
    LeadsIn b None e = LeadsNowhere e
    LeadsIn b (Some block) e = (moves : List Move) × (e.target ≡ base + before g.blocks b + length (phis block.instrs)) × IsRange code.moves e.from e.to moves × Each IsMove (phis block.instrs) moves

    -- an edge to a label leads to its first block
    abbrev pub LeadsTo : Option ℕ → Edge → Type 0
    LeadsTo None e = LeadsNowhere e
    LeadsTo (Some b) e = LeadsIn b (slice_get g.blocks b) e

    -- edge e of the table leads from this block to a label
    pub record IsEdge (to e : ℕ) : Type 0 where
      pub edge : Edge
      pub is : slice_get code.edges e ≡ Some edge
      pub leads : LeadsTo (block_of g to) edge

    -- a branch along edge e
    pub record IsBr (e : ℕ) (i : Instr) : Type 0 where
      pub to : ℕ
      pub is : i.op ≡ op.Br to
      pub edge : IsEdge to e

    -- a branch on the condition in slot x: along edge e where it is true, and else along edge f
    pub record IsCondBr (x e f : ℕ) (i : Instr) : Type 0 where
      pub a : Operand
      pub to : ℕ
      pub other : ℕ
      pub is : i.op ≡ op.CondBr a to other
      pub condition : HasSlot 1 a x
      pub edge : IsEdge to e
      pub other_edge : IsEdge other f

    -- a case, with its number and an edge to its label
    abbrev pub IsCase : ℕ × ℕ → Case → Type 0
    IsCase given c = (c.number ≡ given.0) × IsEdge given.1 c.edge

    -- a switch on slot x, with the edge of its default and the range of its cases
    pub record IsSwitch (x e from to : ℕ) (i : Instr) : Type 0 where
      pub w : ℕ
      pub a : Operand
      pub default : ℕ
      pub given : List (ℕ × ℕ)
      pub cases : List Case
      pub is : i.op ≡ op.Switch w a default given
      pub value : HasSlot w a x
      pub edge : IsEdge default e
      pub range : IsRange code.cases from to cases
      pub each : Each IsCase given cases

    -- ---- returns

    -- a return of what slot x holds
    pub record IsRet (x : ℕ) (i : Instr) : Type 0 where
      pub t : Ty
      pub a : Operand
      pub is : i.op ≡ op.Ret (Some (t, a))
      pub value : HasSlot (width_of s.layout t) a x

    -- ---- all of them

    -- a cell is that of an instruction
    abbrev pub IsCell : Instr → Cell → Type 0
    IsCell i cell.Nothing = ⊥
    IsCell i cell.Phi = is_phi i.op ≡ true
    IsCell i (cell.Add w into x y) = IsBinary bin.Add w into x y i
    IsCell i (cell.Sub w into x y) = IsBinary bin.Sub w into x y i
    IsCell i (cell.Mul w into x y) = IsBinary bin.Mul w into x y i
    IsCell i (cell.UDiv w into x y) = IsBinary bin.UDiv w into x y i
    IsCell i (cell.URem w into x y) = IsBinary bin.URem w into x y i
    IsCell i (cell.SDiv w into x y) = IsBinary bin.SDiv w into x y i
    IsCell i (cell.SRem w into x y) = IsBinary bin.SRem w into x y i
    IsCell i (cell.Shl w into x y) = IsBinary bin.Shl w into x y i
    IsCell i (cell.LShr w into x y) = IsBinary bin.LShr w into x y i
    IsCell i (cell.AShr w into x y) = IsBinary bin.AShr w into x y i
    IsCell i (cell.And w into x y) = IsBinary bin.And w into x y i
    IsCell i (cell.Or w into x y) = IsBinary bin.Or w into x y i
    IsCell i (cell.Xor w into x y) = IsBinary bin.Xor w into x y i
    IsCell i (cell.Eq w into x y) = IsCompare pred.Eq w into x y i
    IsCell i (cell.Ne w into x y) = IsCompare pred.Ne w into x y i
    IsCell i (cell.Ugt w into x y) = IsCompare pred.Ugt w into x y i
    IsCell i (cell.Uge w into x y) = IsCompare pred.Uge w into x y i
    IsCell i (cell.Ult w into x y) = IsCompare pred.Ult w into x y i
    IsCell i (cell.Ule w into x y) = IsCompare pred.Ule w into x y i
    IsCell i (cell.Sgt w into x y) = IsCompare pred.Sgt w into x y i
    IsCell i (cell.Sge w into x y) = IsCompare pred.Sge w into x y i
    IsCell i (cell.Slt w into x y) = IsCompare pred.Slt w into x y i
    IsCell i (cell.Sle w into x y) = IsCompare pred.Sle w into x y i
    IsCell i (cell.Trunc w v into x) = IsCast cast.Trunc w v into x i
    IsCell i (cell.ZExt w v into x) = IsCast cast.ZExt w v into x i
    IsCell i (cell.SExt w v into x) = IsCast cast.SExt w v into x i
    IsCell i (cell.PtrToInt w v into x) = IsCast cast.PtrToInt w v into x i
    IsCell i (cell.IntToPtr w v into x) = IsCast cast.IntToPtr w v into x i
    IsCell i (cell.BitCast w v into x) = IsCast cast.BitCast w v into x i
    IsCell i (cell.Copy into x) = IsCopy into x i
    IsCell i (cell.Select into z x y) = IsSelect into z x y i
    IsCell i (cell.Alloca into x stride align) = IsAlloca into x stride align i
    IsCell i (cell.Load w into x) = IsLoad w into x i
    IsCell i (cell.Store w y x) = IsStore w y x i
    IsCell i (cell.Gep into x from to) = IsGep into x from to i
    IsCell i (cell.Call into f from to) = IsCall into f from to i
    IsCell i (cell.CallAt into from to) = IsCallAt into from to i
    IsCell i (cell.Br e) = IsBr e i
    IsCell i (cell.CondBr x e f) = IsCondBr x e f i
    IsCell i (cell.Switch x e from to) = IsSwitch x e from to i
    IsCell i (cell.Ret x) = IsRet x i
    IsCell i cell.Leave = i.op ≡ op.Ret None
    IsCell i cell.Unreachable = i.op ≡ op.Unreachable
