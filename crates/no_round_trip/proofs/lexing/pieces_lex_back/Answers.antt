use Rattle.no_round_trip.proofs.LexPieces.{parts_as}
use Rattle.no_round_trip.proofs.lexing.pieces_lex_back.Goals as goal

pub returns : goal.returns
returns c = parts_as
