-- Cells as they are made, and what stays of them while tables grow.
use Rattle.std.specs.Prelude.{ℕ, ◌+◌, ◌<◌, ◌≡◌, ◌++◌, ◌∷◌, [], Option, Some, List, drop, length, slice_get}
use Rattle.no_ir.specs.declared.instruction.BinOp.{BinOp}
use Rattle.no_ir.specs.declared.instruction.BinOp.TheVariants as bin
use Rattle.no_ir.specs.declared.instruction.Pred.{Pred}
use Rattle.no_ir.specs.declared.instruction.Pred.TheVariants as pred
use Rattle.no_ir.specs.declared.instruction.CastOp.{CastOp}
use Rattle.no_ir.specs.declared.instruction.CastOp.TheVariants as cast
use Rattle.no_ir.specs.declared.instruction.Instr.{Instr}
use Rattle.no_ir.specs.declared.instruction.Operand.{Operand}
use Rattle.no_ir.specs.declared.types.Ty.{Ty}
use Rattle.no_ir.specs.declared.function.Block.{Block}
use Rattle.no_ir.specs.declared.function.Function.{Function}
use Rattle.no_code.specs.declared.code.Argument.{Argument}
use Rattle.no_code.specs.declared.code.Case.{Case}
use Rattle.no_code.specs.declared.code.Cell.{Cell}
use Rattle.no_code.specs.declared.code.Cell.TheVariants as cell
use Rattle.no_code.specs.declared.code.Code.{Code}
use Rattle.no_code.specs.declared.code.Move.{Move}
use Rattle.no_code.specs.declared.code.Place.{Place}
use Rattle.no_code.specs.declared.code.Step.{Step}
use Rattle.no_code.specs.declared.frame.Frame.{Frame}
use Rattle.no_code.specs.Coded.{AreInner, ArePath, Each, IsArgument, IsCase, IsCell, IsEdge, IsMove, before, block_of, first_cell, size_of}
use Rattle.no_code.specs.Longer.{Longer}
use Rattle.no_code.specs.Whole.{HasBlocks, HasCell, HasFunction, HasHome, IsParameter}
use Rattle.no_code.specs.Source.{Source}

-- the cell of a binary operator, by its width and the slots of its result and its operands
abbrev pub binary_cell : BinOp → ℕ → ℕ → ℕ → ℕ → Cell
binary_cell bin.Add w into x y = cell.Add w into x y
binary_cell bin.Sub w into x y = cell.Sub w into x y
binary_cell bin.Mul w into x y = cell.Mul w into x y
binary_cell bin.UDiv w into x y = cell.UDiv w into x y
binary_cell bin.URem w into x y = cell.URem w into x y
binary_cell bin.SDiv w into x y = cell.SDiv w into x y
binary_cell bin.SRem w into x y = cell.SRem w into x y
binary_cell bin.Shl w into x y = cell.Shl w into x y
binary_cell bin.LShr w into x y = cell.LShr w into x y
binary_cell bin.AShr w into x y = cell.AShr w into x y
binary_cell bin.And w into x y = cell.And w into x y
binary_cell bin.Or w into x y = cell.Or w into x y
binary_cell bin.Xor w into x y = cell.Xor w into x y

-- the cell of a comparison, by its width and the slots of its result and its operands
abbrev pub compare_cell : Pred → ℕ → ℕ → ℕ → ℕ → Cell
compare_cell pred.Eq w into x y = cell.Eq w into x y
compare_cell pred.Ne w into x y = cell.Ne w into x y
compare_cell pred.Ugt w into x y = cell.Ugt w into x y
compare_cell pred.Uge w into x y = cell.Uge w into x y
compare_cell pred.Ult w into x y = cell.Ult w into x y
compare_cell pred.Ule w into x y = cell.Ule w into x y
compare_cell pred.Sgt w into x y = cell.Sgt w into x y
compare_cell pred.Sge w into x y = cell.Sge w into x y
compare_cell pred.Slt w into x y = cell.Slt w into x y
compare_cell pred.Sle w into x y = cell.Sle w into x y

-- the cell of a conversion, by both widths and the slots of its result and its operand
abbrev pub cast_cell : CastOp → ℕ → ℕ → ℕ → ℕ → Cell
cast_cell cast.Trunc w v into x = cell.Trunc w v into x
cast_cell cast.ZExt w v into x = cell.ZExt w v into x
cast_cell cast.SExt w v into x = cell.SExt w v into x
cast_cell cast.PtrToInt w v into x = cell.PtrToInt w v into x
cast_cell cast.IntToPtr w v into x = cell.IntToPtr w v into x
cast_cell cast.BitCast w v into x = cell.BitCast w v into x

-- code with longer tables beside the same cells, places and homes
pub record Grows (a b : Code) : Type 0 where
  pub longer : Longer a b
  pub cells : b.cells ≡ a.cells
  pub places : b.places ≡ a.places
  pub homes : b.homes ≡ a.homes

-- the cell is right now, and whatever is added later
abbrev pub Stays : Source → Function → Frame → Code → Instr → Cell → Type 0
Stays s g f code i c = (later : Code) → Longer code later → IsCell s f.registers later g f.base f.label i c

-- edge e leads to this label now, and whatever is added later
abbrev pub EdgeStays : Source → Function → Frame → Code → ℕ → ℕ → Type 0
EdgeStays s g f code to e = (later : Code) → Longer code later → IsEdge s f.registers later g f.base f.label to e

-- ---- tables beside the cells

-- arguments were added, and constants for them
pub record PutsArguments (s : Source) (n : ℕ) (a b : Code) (given : List (Ty × Operand)) : Type 0 where
  pub arguments : List Argument
  pub more : List ℕ
  pub is : b ≡ record a { constants = a.constants ++ more; arguments = a.arguments ++ arguments }
  pub each : Each (IsArgument s n b) given arguments

-- moves for phis were added, and constants for them
pub record PutsMoves (s : Source) (g : Function) (f : Frame) (a b : Code) (given : List Instr) : Type 0 where
  pub moves : List Move
  pub more : List ℕ
  pub is : b ≡ record a { constants = a.constants ++ more; moves = a.moves ++ moves }
  pub each : Each (IsMove s f.registers b g f.base f.label) given moves

-- steps into a type were added, and constants for them
pub record PutsSteps (a b : Code) (Means : Code → List Step → Type 0) : Type 0 where
  pub steps : List Step
  pub more : List ℕ
  pub is : b ≡ record a { constants = a.constants ++ more; steps = a.steps ++ steps }
  pub means : (later : Code) → Longer b later → Means later steps

-- what follows the steps so far leads from a type on as the whole leads from another
abbrev pub LeadsOn : Source → ℕ → Ty → List (ℕ × Operand) → ℕ → Ty → Code → List Step → Type 0
LeadsOn s n t indices k at later steps = (rest : List Step) → AreInner s n later at (drop k indices) rest → ArePath s n later t indices (steps ++ rest)

-- an edge was added with what it needs
pub record GrowsEdge (a b : Code) : Type 0 where
  pub grows : Grows a b
  pub cases : b.cases ≡ a.cases

-- cases were added, and edges for them
pub record PutsCases (s : Source) (g : Function) (f : Frame) (a b : Code) (given : List (ℕ × ℕ)) : Type 0 where
  pub grows : Grows a b
  pub cases : List Case
  pub are : b.cases ≡ a.cases ++ cases
  pub each : (later : Code) → Longer b later → Each (IsCase s f.registers later g f.base f.label) given cases

-- ---- cells

-- the cell of an instruction and its place were added, behind the tables that it needs
pub record PutsCell (s : Source) (g : Function) (f : Frame) (a b : Code) (i : Instr) (place : Place) : Type 0 where
  pub longer : Longer a b
  pub homes : b.homes ≡ a.homes
  pub cell : Cell
  pub cells : b.cells ≡ a.cells ++ cell ∷ []
  pub places : b.places ≡ a.places ++ place ∷ []
  pub stays : (later : Code) → Longer b later → IsCell s f.registers later g f.base f.label i cell

-- the cells of the first count instructions of a block were added
pub record PutsBlock (s : Source) (g : Function) (f : Frame) (number b : ℕ) (block : Block) (count : ℕ) (a c : Code) : Type 0 where
  pub longer : Longer a c
  pub homes : c.homes ≡ a.homes
  pub cells : length c.cells ≡ length a.cells + count
  pub places : length c.places ≡ length a.places + count
  pub each : (later : Code) → Longer c later → (k : ℕ) (i : Instr) → k < count → slice_get block.instrs k ≡ Some i → HasCell s later number g f.base b block k i

-- the cells of the first count blocks of a function were added
pub record PutsBlocks (s : Source) (g : Function) (number base count : ℕ) (a c : Code) : Type 0 where
  pub longer : Longer a c
  pub homes : c.homes ≡ a.homes
  pub cells : length c.cells ≡ length a.cells + before g.blocks count
  pub places : length c.places ≡ length a.places + before g.blocks count
  pub each : (later : Code) → Longer c later → HasBlocks s later number g base count

-- parameters of a function were added
pub record PutsParameters (a b : Code) (given : List (ℕ × Ty)) : Type 0 where
  pub params : List Argument
  pub is : b ≡ record a { arguments = a.arguments ++ params }
  pub each : Each IsParameter given params

-- the home of a function was added
pub record PutsHome (g : Function) (base : ℕ) (a b : Code) : Type 0 where
  pub longer : Longer a b
  pub cells : b.cells ≡ a.cells
  pub places : b.places ≡ a.places
  pub homes : length b.homes ≡ length a.homes + 1
  pub has : (later : Code) → Longer b later → HasHome later (length a.homes) g base

-- a function was added
pub record PutsFunction (s : Source) (number : ℕ) (g : Function) (a c : Code) : Type 0 where
  pub longer : Longer a c
  pub homes : length c.homes ≡ length a.homes + 1
  pub cells : length c.cells ≡ length a.cells + size_of g
  pub places : length c.places ≡ length a.places + size_of g
  pub has : (later : Code) → Longer c later → HasFunction s later number g (length a.cells)

-- the first count functions were added
pub record PutsFunctions (s : Source) (functions : List Function) (count : ℕ) (code : Code) : Type 0 where
  pub homes : length code.homes ≡ count
  pub cells : length code.cells ≡ first_cell functions count
  pub places : length code.places ≡ first_cell functions count
  pub first : slice_get code.cells 0 ≡ Some cell.Nothing
  pub each : (later : Code) → Longer code later → (f : ℕ) (g : Function) → f < count → slice_get functions f ≡ Some g → HasFunction s later f g (first_cell functions f)

-- ---- tables of a function

-- the first block of each label
abbrev pub AreLabels : Function → List (Option ℕ) → Type 0
AreLabels g labels = (l : ℕ) → l < length g.labels → slice_get labels l ≡ Some (block_of g l)

-- the number of the first cell of each block
abbrev pub AreStarts : Function → ℕ → List ℕ → Type 0
AreStarts g base starts = (b : ℕ) (block : Block) → slice_get g.blocks b ≡ Some block → slice_get starts b ≡ Some (base + before g.blocks b)
