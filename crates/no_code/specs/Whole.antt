-- Whole code of a module.
use Rattle.std.specs.Prelude.{ℕ, ◌+◌, ◌<◌, ◌≡◌, Some, List, length, slice_get}
use Rattle.no_ir.specs.declared.types.Ty.{Ty}
use Rattle.no_ir.specs.declared.instruction.Instr.{Instr}
use Rattle.no_ir.specs.declared.function.Block.{Block}
use Rattle.no_ir.specs.declared.function.Function.{Function}
use Rattle.no_code.specs.declared.code.Argument.{Argument}
use Rattle.no_code.specs.declared.code.Cell.{Cell}
use Rattle.no_code.specs.declared.code.Cell.TheVariants as cell
use Rattle.no_code.specs.declared.code.Code.{Code}
use Rattle.no_code.specs.declared.code.Home.{Home}
use Rattle.no_code.specs.Coded.{Each, IsCell, IsRange, before, first_cell, kind_of}
use Rattle.no_code.specs.Source.{Source}

-- the cell of instruction k of block b of function f, which is g and begins with cell base, and where it stands
pub record HasCell (s : Source) (code : Code) (f : ℕ) (g : Function) (base b : ℕ) (block : Block) (k : ℕ) (i : Instr) : Type 0 where
  pub cell : Cell
  pub is : slice_get code.cells (base + before g.blocks b + k) ≡ Some cell
  pub stands : slice_get code.places (base + before g.blocks b + k) ≡ Some (record { function = f; block = b; at = k; inserted = i.inserted })
  pub means : IsCell s (length g.registers) code g base block.label i cell

-- a parameter has the slot of its register
abbrev pub IsParameter : ℕ × Ty → Argument → Type 0
IsParameter param a = (a.slot ≡ param.0) × (a.kind ≡ kind_of param.1)

-- function f has its home: its first cell, how many registers it has, its parameters, and the kind of its result
pub record HasHome (code : Code) (f : ℕ) (g : Function) (base : ℕ) : Type 0 where
  pub home : Home
  pub params : List Argument
  pub is : slice_get code.homes f ≡ Some home
  pub starts : home.start ≡ base
  pub registers : home.registers ≡ length g.registers
  pub result : home.result ≡ kind_of g.result
  pub range : IsRange code.arguments home.from home.to params
  pub each : Each IsParameter g.params params

-- the cells of the first count blocks of a function
abbrev pub HasBlocks : Source → Code → ℕ → Function → ℕ → ℕ → Type 0
HasBlocks s code f g base count = (b k : ℕ) (block : Block) (i : Instr) → b < count → slice_get g.blocks b ≡ Some block → slice_get block.instrs k ≡ Some i → HasCell s code f g base b block k i

-- function f has its home, and a cell for each of its instructions
pub record HasFunction (s : Source) (code : Code) (f : ℕ) (g : Function) (base : ℕ) : Type 0 where
  pub home : HasHome code f g base
  pub blocks : HasBlocks s code f g base (length g.blocks)

-- Code of a module: no instruction stands before the first cell of its functions and behind their last, and each instruction of each function has its cell, in order.
pub record IsCode (s : Source) (code : Code) : Type 0 where
  pub first : slice_get code.cells 0 ≡ Some cell.Nothing
  pub functions : (f : ℕ) (g : Function) → slice_get s.«module».functions f ≡ Some g → HasFunction s code f g (first_cell s.«module».functions f)
  pub last : slice_get code.cells (first_cell s.«module».functions (length s.«module».functions)) ≡ Some cell.Nothing
  pub count : length code.cells ≡ first_cell s.«module».functions (length s.«module».functions) + 1
