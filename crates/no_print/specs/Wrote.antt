-- What a call appends to a text.
use Rattle.std.specs.Prelude.{◌≡◌, ℕ, List, ◌++◌}
use Rattle.no_print.specs.Pieces.{Piece, written}

-- a text has grown by the bytes of pieces
pub record Wrote (old new : List ℕ) (pieces : List Piece) : Type 0 where
  pub is : new ≡ old ++ written pieces

-- a text that has begun with `old` is at `new`, and these pieces are left of the whole
pub record Left (old new : List ℕ) (whole rest : List Piece) : Type 0 where
  pub is : old ++ written whole ≡ new ++ written rest
