-- Where a text's tokens are pieces, one for one.
use Rattle.std.specs.Prelude.{◌≡◌, ℕ, List, [], ◌∷◌, ◌-◌, take, drop}
use Rattle.no_lex.specs.declared.token.Token.{Token}
use Rattle.no_print.specs.Pieces.{Piece}

-- a token of a text has the kind and the bytes of a piece
pub record IsPiece (text : List ℕ) (token : Token) (p : Piece) : Type 0 where
  pub kind : token.kind ≡ p.kind
  pub bytes : take (token.end - token.start) (drop token.start text) ≡ p.bytes

-- these tokens of a text are these pieces
abbrev pub Stand : List ℕ → List Token → List Piece → Type 0
Stand text [] [] = Unit {0}
Stand text (token ∷ tokens) (p ∷ pieces) = IsPiece text token p × Stand text tokens pieces
Stand text tokens pieces = ⊥
