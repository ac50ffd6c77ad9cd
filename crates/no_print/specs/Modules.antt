-- The one spelling of a module (docs/LANGUAGE.md, "Canonical text"; LLVM Language Reference, "Module Structure").
use Rattle.std.specs.Prelude.{ℕ, Bool, true, false, List, [], ◌∷◌, ◌++◌, map, codes, decimal, Option, Some, None}
use Rattle.std.specs.List.{list_any}
use Rattle.no_ir.specs.declared.types.Ty.{Ty}
use Rattle.no_ir.specs.declared.instruction.Instr.{Instr}
use Rattle.no_ir.specs.declared.function.Block.{Block}
use Rattle.no_ir.specs.declared.function.Function.{Function}
use Rattle.no_ir.specs.declared.function.GlobalVar.{GlobalVar}
use Rattle.no_ir.specs.declared.function.Module.{Module}
use Rattle.no_lex.specs.declared.token.TokenKind.TheVariants as kind
pub use Rattle.no_words.specs.Names.{names_once}
use Rattle.no_print.specs.Pieces.{Piece, written, glued, spaced, lined, parted, piece, word, sign, with_commas}
use Rattle.no_print.specs.Names.{name_at, global_name, local_name, label_line, string}
use Rattle.no_print.specs.Constants.{Spelled, type_at, const_pieces}
use Rattle.no_print.specs.Instructions.{Locals, instr_pieces, alignment_pieces}

-- the names of a module's types, globals and functions
abbrev pub spelled_in : Module → Spelled
spelled_in m = record {
  named = map (λ t. t.0) m.types;
  types = map (λ t. t.1) m.types;
  globals = names_once (map (λ g. g.name) m.globals);
  functions = names_once (map (λ f. f.name) m.functions);
}

-- ---- the layout, named types and globals

-- the data layout
abbrev pub layout_pieces : List ℕ → List Piece
layout_pieces layout =
    word glued (codes "target") ++ (word spaced (codes "datalayout") ++ (sign spaced (codes "=") ++ string spaced layout))

-- a definition of a named type
abbrev pub named_pieces : Spelled → List ℕ × Ty → List Piece
named_pieces s t = local_name lined t.0 ++ (sign spaced (codes "=") ++ (word spaced (codes "type") ++ type_at s spaced t.1))

-- the word for a constant or for a writable global
abbrev pub kind_word : Bool → List ℕ
kind_word false = codes "global"
kind_word true = codes "constant"

-- a global
abbrev pub global_pieces : Spelled → GlobalVar → List Piece
global_pieces s g =
    global_name lined g.name ++ (sign spaced (codes "=") ++ (word spaced (kind_word g.constant) ++ (type_at s spaced g.ty
    ++ (const_pieces s g.init g.ty spaced ++ alignment_pieces g.align))))

-- ---- functions

-- the attribute that binds a function to the device, where it is bound
abbrev pub bound_pieces : Bool → List Piece
bound_pieces false = []
bound_pieces true = string spaced (codes "machine-bound")

-- the attribute with the address that the device has for a function, where there is one
abbrev pub address_pieces : Option ℕ → List Piece
address_pieces None = []
address_pieces (Some n) = string spaced (codes "no.addr") ++ (sign glued (codes "=") ++ string glued (decimal n))

-- the attributes of a function
abbrev pub attributes : Function → List Piece
attributes f = bound_pieces f.bound ++ address_pieces f.device_address

-- what stands in front of the parameters: the first word, the type of the result, and the name
abbrev pub head_pieces : Spelled → List ℕ → Function → List Piece
head_pieces s first f = word parted first ++ (type_at s spaced f.result ++ global_name spaced f.name)

-- the type of a declared parameter
abbrev pub type_alone : Spelled → List ℕ → ℕ × Ty → List Piece
type_alone s gap p = type_at s gap p.1

-- a declared function: its parameters by their types
abbrev pub declared_pieces : Spelled → Function → List Piece
declared_pieces s f =
    head_pieces s (codes "declare") f ++ (sign glued (codes "(") ++ (with_commas (type_alone s) glued f.params ++ (sign glued (codes ")") ++ attributes f)))

-- a parameter of a defined function: its type and its register
abbrev pub param_pieces : Spelled → List (List ℕ) → List ℕ → ℕ × Ty → List Piece
param_pieces s registers gap p = type_at s gap p.1 ++ local_name spaced (name_at registers p.0)

-- instructions, one behind the other
abbrev pub instrs_pieces : Spelled → Locals → List Instr → List Piece
instrs_pieces s f [] = []
instrs_pieces s f (i ∷ instrs) = instr_pieces s f i ++ instrs_pieces s f instrs

-- blocks, each behind its label
abbrev pub blocks_pieces : Spelled → Locals → List Block → List Piece
blocks_pieces s f [] = []
blocks_pieces s f (b ∷ blocks) = label_line lined (name_at f.labels b.label) ++ (instrs_pieces s f b.instrs ++ blocks_pieces s f blocks)

-- the names of a function's registers and labels
abbrev pub locals_of : Function → Locals
locals_of f = record { registers = f.registers; labels = f.labels }

-- a defined function: its head, and its blocks in braces
abbrev pub defined_pieces : Spelled → Function → List Piece
defined_pieces s f =
    head_pieces s (codes "define") f ++ (sign glued (codes "(") ++ (with_commas (param_pieces s f.registers) glued f.params ++ (sign glued (codes ")")
    ++ (attributes f ++ (sign spaced (codes "{") ++ (blocks_pieces s (locals_of f) f.blocks ++ sign lined (codes "}")))))))

-- a function by its blocks: declared where there are none
abbrev pub function_by : Spelled → Function → List Block → List Piece
function_by s f [] = declared_pieces s f
function_by s f (b ∷ blocks) = defined_pieces s f

-- a function without blocks is declared
abbrev pub function_pieces : Spelled → Function → List Piece
function_pieces s f = function_by s f f.blocks

-- ---- the node that marks inserted instructions

-- whether the partition inserted one of a function's instructions
abbrev pub has_inserted : Function → Bool
has_inserted f = list_any (λ b. list_any (λ i. i.inserted) b.instrs) f.blocks

-- the node that marks inserted instructions, where there is one
abbrev pub node_pieces : Bool → List Piece
node_pieces false = []
node_pieces true =
    piece kind.Meta lined (codes "!0") ++ (sign spaced (codes "=") ++ (piece kind.Meta spaced (codes "!") ++ (sign glued (codes "{") ++ sign glued (codes "}"))))

-- ---- whole modules

-- the pieces of all items of a list, one behind the other
abbrev pub each : {A : Type 0} → (A → List Piece) → List A → List Piece
each f [] = []
each f (a ∷ all) = f a ++ each f all

-- the pieces of a module, by its names
abbrev pub pieces_in : Spelled → Module → List Piece
pieces_in s m =
    layout_pieces m.layout ++ (each (named_pieces s) m.types ++ (each (global_pieces s) m.globals ++ (each (function_pieces s) m.functions
    ++ node_pieces (list_any has_inserted m.functions))))

-- the pieces of a module
abbrev pub module_pieces : Module → List Piece
module_pieces m = pieces_in (spelled_in m) m

-- the text of a module, whose last line is ended too
unfoldable pub module_text : Module → List ℕ
module_text m = written (module_pieces m) ++ 10 ∷ []
