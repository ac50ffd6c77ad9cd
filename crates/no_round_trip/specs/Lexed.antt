-- Texts whose tokens are pieces, one for one.
use Rattle.std.specs.Prelude.{ℕ, List, Ok}
use Rattle.no_lex.specs.declared.token.Token.{Token}
use Rattle.no_lex.specs.Tokens.{Parts, Lexes}
use Rattle.no_print.specs.Pieces.{Piece}
use Rattle.no_print.specs.Stand.{Stand}

-- the text parts into tokens that stand as these pieces
pub record PartsAs (text : List ℕ) (pieces : List Piece) : Type 0 where
  pub tokens : List Token
  pub parts : Parts text tokens
  pub stand : Stand text tokens pieces

-- the same of a text that is no longer than the limit
pub record LexesAs (limit : ℕ) (text : List ℕ) (pieces : List Piece) : Type 0 where
  pub tokens : List Token
  pub lexes : Lexes limit text (Ok tokens)
  pub stand : Stand text tokens pieces
