-- When pieces are tokens that do not run together (docs/LANGUAGE.md, "Canonical text").
use Rattle.std.specs.Prelude.{◌≡◌, ℕ, Bool, true, false, not, ◌&&◌, ◌||◌, List, [], ◌∷◌, ◌++◌, bytes_eq, codes, Some}
use Rattle.std.specs.List.{list_all}
use Rattle.no_lex.specs.declared.token.TokenKind.{TokenKind}
use Rattle.no_lex.specs.declared.token.TokenKind.TheVariants as kind
use Rattle.no_lex.specs.Spelling.{is_blank, kind_of}
use Rattle.no_lex.specs.Tokens.{may_label}
use Rattle.no_print.specs.Pieces.{Piece}

-- ---- one piece

-- a word, an integer or a string, and a colon
pub record IsLabel (bytes : List ℕ) : Type 0 where
  pub name : List ℕ
  pub kind : TokenKind
  pub is : bytes ≡ name ++ 58 ∷ []
  pub spells : kind_of name ≡ Some kind
  pub may : may_label kind ≡ true

-- the bytes are by themselves a token of this kind
abbrev pub Spells : TokenKind → List ℕ → Type 0
Spells kind.Label bytes = IsLabel bytes
Spells kind.CMark bytes = bytes ≡ codes "c"
Spells kind bytes = kind_of bytes ≡ Some kind

-- blanks, and behind them a token
pub record IsWell (p : Piece) : Type 0 where
  pub blanks : list_all is_blank p.gap ≡ true
  pub spells : Spells p.kind p.bytes

-- ---- neighbours

-- one byte; of the signs all but `...` have one
abbrev pub is_single : List ℕ → Bool
is_single (b ∷ []) = true
is_single bytes = false

-- a sign of one byte, but no colon, which would make what is in front a label
abbrev pub is_parting : TokenKind → List ℕ → Bool
is_parting kind.Sign bytes = is_single bytes && not (bytes_eq bytes (codes ":"))
is_parting kind bytes = false

-- a piece in front of these ends where they begin: they begin with a blank or such a sign, or the text ends
abbrev pub begin_apart : List Piece → Bool
begin_apart [] = true
begin_apart (p ∷ pieces) = not (bytes_eq p.gap []) || is_parting p.kind p.bytes

-- a token is a string
abbrev pub is_quoted : TokenKind → Bool
is_quoted kind.Quoted = true
is_quoted kind = false

-- a string comes first, with nothing in front
abbrev pub begin_quoted : List Piece → Bool
begin_quoted [] = false
begin_quoted (p ∷ pieces) = bytes_eq p.gap [] && is_quoted p.kind

-- a token of this kind and with these bytes stays apart from the pieces behind it: a label and a sign of one byte from any
abbrev pub stays_apart : TokenKind → List ℕ → List Piece → Bool
stays_apart kind.Label bytes pieces = true
stays_apart kind.CMark bytes pieces = begin_quoted pieces
stays_apart kind.Sign bytes pieces = is_single bytes || begin_apart pieces
stays_apart kind bytes pieces = begin_apart pieces

-- each piece is a token, and stays apart from the next
abbrev pub Fits : List Piece → Type 0
Fits [] = Unit {0}
Fits (p ∷ pieces) = IsWell p × (stays_apart p.kind p.bytes pieces ≡ true) × Fits pieces
