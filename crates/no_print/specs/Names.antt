-- How names, strings and numbers are spelled (LLVM Language Reference, "Identifiers").
use Rattle.std.specs.Prelude.{ℕ, ◌+◌, ◌^◌, Bool, not, ◌&&◌, List, [], ◌∷◌, ◌++◌, ◌==◌, ◌/◌, ◌%◌, nat_le, nat_lt, slice_get, unwrap_or, decimal, codes, bytes_eq, ℤ, pos, negsuc, if◌then◌else◌}
use Rattle.std.specs.Fmt.{signed_decimal}
use Rattle.no_eval.specs.Numbers.{signed}
use Rattle.no_lex.specs.Spelling.{is_name}
use Rattle.no_lex.specs.declared.token.TokenKind.TheVariants as kind
use Rattle.no_print.specs.Pieces.{Piece, piece, word, integer}

-- ---- strings

-- an upper-case hexadecimal digit
abbrev pub hex_digit : ℕ → ℕ
hex_digit n = if nat_lt n 10 then 48 + n else 55 + n

-- printable ASCII, but no quote and no backslash
abbrev pub is_plain : ℕ → Bool
is_plain b = nat_le 32 b && (nat_le b 126 && (not (b == 34) && not (b == 92)))

-- a byte in a string: itself, or a backslash and two digits
abbrev pub escaped_byte : ℕ → List ℕ
escaped_byte b = if is_plain b then b ∷ [] else 92 ∷ hex_digit (b / 16) ∷ hex_digit (b % 16) ∷ []

-- bytes in a string, each as itself or by its digits
abbrev pub escaped : List ℕ → List ℕ
escaped [] = []
escaped (b ∷ bytes) = escaped_byte b ++ escaped bytes

-- bytes in double quotes
abbrev pub quoted : List ℕ → List ℕ
quoted bytes = 34 ∷ (escaped bytes ++ 34 ∷ [])

-- bytes in double quotes, behind these blanks
abbrev pub string : List ℕ → List ℕ → List Piece
string gap bytes = piece kind.Quoted gap (quoted bytes)

-- ---- names

-- bare where all bytes are name characters and there is one, and otherwise in quotes
abbrev pub spelling : List ℕ → List ℕ
spelling name = if is_name name then name else quoted name

-- the name of a global or a function behind its sign, behind these blanks
abbrev pub global_name : List ℕ → List ℕ → List Piece
global_name gap name = piece kind.Global gap (64 ∷ spelling name)

-- the name of a register, a label or a named type behind its sign, behind these blanks
abbrev pub local_name : List ℕ → List ℕ → List Piece
local_name gap name = piece kind.Local gap (37 ∷ spelling name)

-- the name `...` stands in quotes before a colon, where it would be a sign otherwise
abbrev pub label_spelling : List ℕ → List ℕ
label_spelling name = if bytes_eq name (codes "...") then quoted name else spelling name

-- a label at the beginning of its block, behind these blanks
abbrev pub label_line : List ℕ → List ℕ → List Piece
label_line gap name = piece kind.Label gap (label_spelling name ++ 58 ∷ [])

-- the name at a place of a list of names
abbrev pub name_at : List (List ℕ) → ℕ → List ℕ
name_at names n = unwrap_or (slice_get names n) []

-- ---- numbers

-- a number of one bit as `true` or `false`, behind these blanks
abbrev pub truth : List ℕ → ℕ → List Piece
truth gap n = word gap (if n == 0 then codes "false" else codes "true")

-- a number of an integer type: of one bit it is a truth value, and otherwise it has its sign
abbrev pub number : ℕ → List ℕ → ℕ → List Piece
number w gap n = if w == 1 then truth gap n else integer gap (signed_decimal (signed w n))

-- the name of an integer type
abbrev pub int_type : List ℕ → ℕ → List Piece
int_type gap w = word gap (105 ∷ decimal w)

-- whether 32 bits hold a number with its sign
abbrev pub fits_i32 : ℤ → Bool
fits_i32 (pos n) = nat_lt n (2 ^ 31)
fits_i32 (negsuc n) = nat_lt n (2 ^ 31)
