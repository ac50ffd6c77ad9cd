-- How constants are spelled at their types (LLVM Language Reference, "Constants" and "Constant Expressions").
use Rattle.std.specs.Prelude.{ℕ, List, [], ◌∷◌, ◌++◌, slice_get, unwrap_or, codes, ℤ, if◌then◌else◌}
use Rattle.std.specs.Fmt.{signed_decimal}
use Rattle.no_ir.specs.declared.types.Ty.{Ty, out-Ty}
use Rattle.no_ir.specs.declared.types.Ty.TheOpen.{Ty-F}
use Rattle.no_ir.specs.declared.types.Ty.TheVariants as ty
use Rattle.no_ir.specs.declared.constant.Const.{Const}
use Rattle.no_ir.specs.declared.constant.Const.TheOpen.{Const-F}
use Rattle.no_ir.specs.declared.constant.Const.TheFolds.{fold-Const}
use Rattle.no_ir.specs.declared.constant.Place.{Place}
use Rattle.no_ir.specs.declared.constant.Symbol.{Symbol}
use Rattle.no_ir.specs.declared.constant.Symbol.TheVariants as symbol
use Rattle.no_lex.specs.declared.token.TokenKind.TheVariants as kind
use Rattle.no_print.specs.Pieces.{Piece, glued, spaced, piece, word, sign, integer, comma, behind_commas, with_commas}
use Rattle.no_eval.specs.Numbers.{signed}
use Rattle.no_print.specs.Names.{name_at, global_name, int_type, number, string, fits_i32}
use Rattle.no_print.specs.Types.{type_pieces, in_braces}

-- the names of named types with what they name, and the names of globals and of functions, each once and in the order of the module
pub record Spelled : Type 0 where
  pub named : List (List ℕ)
  pub types : List Ty
  pub globals : List (List ℕ)
  pub functions : List (List ℕ)

-- an index has 32 bits where it fits them
abbrev pub index_width : ℤ → ℕ
index_width i = if fits_i32 i then 32 else 64

-- a constant index: its integer type, and the number with its sign
abbrev pub index_pieces : ℤ → List Piece
index_pieces i = int_type spaced (index_width i) ++ integer spaced (signed_decimal i)

-- what is zero at a type: a number, `null` or `zeroinitializer`
abbrev pub zero_in : List ℕ → Ty-F Ty → List Piece
zero_in gap (Ty-F.Int w) = number w gap 0
zero_in gap Ty-F.Ptr = word gap (codes "null")
zero_in gap _ = word gap (codes "zeroinitializer")

-- the width of an integer type; other types have no integers, and 64 stands for them
abbrev pub width_in : Ty-F Ty → ℕ
width_in (Ty-F.Int w) = w
width_in _ = 64

-- the type of an array's elements; what is no array has none, and void stands for it
abbrev pub element_in : Ty-F Ty → Ty
element_in (Ty-F.Array n element) = element
element_in _ = ty.Void

-- the types of a struct's fields; what is no struct has none
abbrev pub fields_in : Ty-F Ty → List Ty
fields_in (Ty-F.Struct packed fields) = fields
fields_in _ = []

-- a number as an address, by `inttoptr`
abbrev pub int_as_address : List ℕ → ℕ → List Piece
int_as_address gap n =
    word gap (codes "inttoptr") ++ (sign spaced (codes "(") ++ (int_type glued 64 ++ (integer spaced (signed_decimal (signed 64 n))
    ++ (word spaced (codes "to") ++ (word spaced (codes "ptr") ++ sign glued (codes ")"))))))

module _ (s : Spelled) where
  -- a type behind these blanks, by the module's names
  abbrev pub type_at : List ℕ → Ty → List Piece
  type_at gap t = type_pieces s.named t gap

  -- ---- addresses

  -- the name of a symbol
  abbrev pub symbol_name : Symbol → List ℕ
  symbol_name (symbol.Global n) = name_at s.globals n
  symbol_name (symbol.Function n) = name_at s.functions n
  symbol_name (symbol.Unknown name) = name

  -- a constant `getelementptr`
  abbrev pub gep_place : List ℕ → Place → List Piece
  gep_place gap place =
      word gap (codes "getelementptr") ++ (sign spaced (codes "(") ++ (type_at glued place.base ++ (comma
      ++ (word spaced (codes "ptr") ++ (global_name spaced (symbol_name place.symbol) ++ (behind_commas index_pieces place.indices
      ++ sign glued (codes ")")))))))

  -- a bare name where there are no indices, and else a constant `getelementptr`
  abbrev pub place_by : List ℕ → Place → List ℤ → List Piece
  place_by gap place [] = global_name gap (symbol_name place.symbol)
  place_by gap place (i ∷ indices) = gep_place gap place

  -- an address behind these blanks: a bare name where it has no indices
  abbrev pub place_pieces : List ℕ → Place → List Piece
  place_pieces gap place = place_by gap place place.indices

  -- ---- constants

  -- what a named type names
  abbrev pub named_in : Ty → Ty-F Ty → Ty
  named_in t (Ty-F.Named n) = unwrap_or (slice_get s.types n) t
  named_in t _ = t

  -- a type that constants are spelled at: what a named type names, and any other itself
  abbrev pub resolved : Ty → Ty
  resolved t = named_in t (out-Ty t)

  -- a member: its type, and the constant
  abbrev pub member : List ℕ → Ty → (Ty → List ℕ → List Piece) → List Piece
  member gap t c = type_at gap t ++ c t spaced

  -- members and their types; a member past the last type has none
  abbrev pub typed : List (Ty → List ℕ → List Piece) → List Ty → List (List ℕ → List Piece)
  typed [] types = []
  typed (c ∷ members) [] = (λ gap. member gap ty.Void c) ∷ typed members []
  typed (c ∷ members) (t ∷ types) = (λ gap. member gap t c) ∷ typed members types

  -- an array: its elements in square brackets, each with its type
  abbrev pub array_const : List ℕ → Ty → List (Ty → List ℕ → List Piece) → List Piece
  array_const gap element members =
      sign gap (codes "[") ++ (with_commas (λ g c. member g element c) glued members ++ sign glued (codes "]"))

  -- a struct: its fields in braces, each with its type
  abbrev pub struct_const : List ℕ → List Ty → List (Ty → List ℕ → List Piece) → List Piece
  struct_const gap types members = in_braces gap (with_commas (λ g field. field g) spaced (typed members types))

  -- an address as an integer, by `ptrtoint`
  abbrev pub address_as_int : List ℕ → Ty → Place → List Piece
  address_as_int gap t place =
      word gap (codes "ptrtoint") ++ (sign spaced (codes "(") ++ (word glued (codes "ptr") ++ (place_pieces spaced place
      ++ (word spaced (codes "to") ++ (type_at spaced t ++ sign glued (codes ")"))))))

  -- one form of a constant at its type, where the constants inside it are spelled
  abbrev pub const_step : Const-F (Ty → List ℕ → List Piece) → Ty → List ℕ → List Piece
  const_step Const-F.Zero t gap = zero_in gap (out-Ty (resolved t))
  const_step (Const-F.Int n) t gap = number (width_in (out-Ty (resolved t))) gap n
  const_step (Const-F.Str bytes) t gap = piece kind.CMark gap (codes "c") ++ string glued bytes
  const_step (Const-F.Array members) t gap = array_const gap (element_in (out-Ty (resolved t))) members
  const_step (Const-F.Struct members) t gap = struct_const gap (fields_in (out-Ty (resolved t))) members
  const_step (Const-F.Address place) t gap = place_pieces gap place
  const_step (Const-F.AddressAsInt place) t gap = address_as_int gap t place
  const_step (Const-F.IntAsPtr n) t gap = int_as_address gap n

  -- a constant at its type, behind these blanks
  abbrev pub const_pieces : Const → Ty → List ℕ → List Piece
  const_pieces = fold-Const (Ty → List ℕ → List Piece) const_step
