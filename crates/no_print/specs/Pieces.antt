-- A text as its pieces: each token, and the blanks in front of it.
use Rattle.std.specs.Prelude.{ℕ, List, [], ◌∷◌, ◌++◌}
use Rattle.no_lex.specs.declared.token.TokenKind.{TokenKind}
use Rattle.no_lex.specs.declared.token.TokenKind.TheVariants as kind

-- blanks, the kind of a token, and its bytes
pub record Piece : Type 0 where
  pub gap : List ℕ
  pub kind : TokenKind
  pub bytes : List ℕ

-- the bytes of pieces, one behind the other
abbrev pub written : List Piece → List ℕ
written [] = []
written (p ∷ pieces) = p.gap ++ (p.bytes ++ written pieces)

-- ---- what stands in front of a token: nothing, a space, a new line, a new line of an instruction, an empty line

-- nothing in front
abbrev pub glued : List ℕ
glued = []

-- a space in front
abbrev pub spaced : List ℕ
spaced = 32 ∷ []

-- a new line in front
abbrev pub lined : List ℕ
lined = 10 ∷ []

-- a new line in front, as instructions stand on
abbrev pub indented : List ℕ
indented = 10 ∷ 32 ∷ 32 ∷ []

-- an empty line in front
abbrev pub parted : List ℕ
parted = 10 ∷ 10 ∷ []

-- ---- single pieces

-- one token of this kind, behind these blanks
abbrev pub piece : TokenKind → List ℕ → List ℕ → List Piece
piece k gap bytes = record { gap = gap; kind = k; bytes = bytes } ∷ []

-- one word, behind these blanks
abbrev pub word : List ℕ → List ℕ → List Piece
word = piece kind.Word

-- one sign, behind these blanks
abbrev pub sign : List ℕ → List ℕ → List Piece
sign = piece kind.Sign

-- one integer, behind these blanks
abbrev pub integer : List ℕ → List ℕ → List Piece
integer = piece kind.Integer

-- a comma, with nothing in front
abbrev pub comma : List Piece
comma = sign glued (44 ∷ [])

-- ---- lists: each behind the first has a comma in front

-- the items of a list, each behind a comma
abbrev pub behind_commas : {A : Type 0} → (A → List Piece) → List A → List Piece
behind_commas f [] = []
behind_commas f (a ∷ all) = comma ++ (f a ++ behind_commas f all)

-- the first of a list, and the others, stand apart from what is before them by these blanks
abbrev pub with_commas : {A : Type 0} → (List ℕ → A → List Piece) → List ℕ → List A → List Piece
with_commas f gap [] = []
with_commas f gap (a ∷ all) = f gap a ++ behind_commas (f spaced) all
