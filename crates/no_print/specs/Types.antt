-- How types are spelled (LLVM Language Reference, "Type System").
use Rattle.std.specs.Prelude.{ℕ, Bool, true, false, List, [], ◌∷◌, ◌++◌, codes, decimal}
use Rattle.no_ir.specs.declared.types.Ty.{Ty}
use Rattle.no_ir.specs.declared.types.Ty.TheOpen.{Ty-F}
use Rattle.no_ir.specs.declared.types.Ty.TheFolds.{fold-Ty}
use Rattle.no_print.specs.Pieces.{Piece, glued, spaced, word, sign, integer, with_commas}
use Rattle.no_print.specs.Names.{local_name, name_at, int_type}

-- items in braces, with a space inside each brace; none are `{}`
abbrev pub in_braces : List ℕ → List Piece → List Piece
in_braces gap [] = sign gap (codes "{") ++ sign glued (codes "}")
in_braces gap (p ∷ pieces) = sign gap (codes "{") ++ ((p ∷ pieces) ++ sign spaced (codes "}"))

-- fields, each behind these blanks
abbrev pub fields_with : List (List ℕ → List Piece) → List Piece
fields_with = with_commas (λ gap field. field gap) spaced

-- a struct of these fields: in braces, and where it is packed in angle brackets around them
abbrev pub struct_pieces : Bool → List ℕ → List Piece → List Piece
struct_pieces false gap fields = in_braces gap fields
struct_pieces true gap fields = sign gap (codes "<") ++ (in_braces glued fields ++ sign glued (codes ">"))

-- an array: its count, and the type of its elements
abbrev pub array_pieces : List ℕ → ℕ → (List ℕ → List Piece) → List Piece
array_pieces gap count element =
    sign gap (codes "[") ++ (integer glued (decimal count) ++ (word spaced (codes "x") ++ (element spaced ++ sign glued (codes "]"))))

-- one form of a type, where the types inside it are spelled
abbrev pub type_step : List (List ℕ) → Ty-F (List ℕ → List Piece) → List ℕ → List Piece
type_step names Ty-F.Void gap = word gap (codes "void")
type_step names (Ty-F.Int w) gap = int_type gap w
type_step names Ty-F.Ptr gap = word gap (codes "ptr")
type_step names (Ty-F.Array count element) gap = array_pieces gap count element
type_step names (Ty-F.Struct packed fields) gap = struct_pieces packed gap (fields_with fields)
type_step names (Ty-F.Named n) gap = local_name gap (name_at names n)

-- a type behind these blanks, where `names` are those of the named types
abbrev pub type_pieces : List (List ℕ) → Ty → List ℕ → List Piece
type_pieces names = fold-Ty (List ℕ → List Piece) (type_step names)
