-- Pieces that fit are the tokens of what is written from them.
use Rattle.std.proofs.Common.{◌≡◌, ℕ, ◌+◌, ◌-◌, ◌≤◌, true, false, List, [], ◌∷◌, ◌++◌, length, take, drop, refl, sym, ap, subst, ◌∙◌, append_assoc, arith}
use Rattle.std.specs.List.{list_all}
use Rattle.std.proofs.lemmas.Bool.{and_parts}
use Rattle.std.proofs.lemmas.List.{drop-drop, length-drop}
use Rattle.std.proofs.Math.Seq.{take-append_seam, drop-append_seam}
use Rattle.no_lex.specs.declared.token.Token.{Token}
use Rattle.no_lex.specs.Spelling.{is_blank}
use Rattle.no_lex.specs.Tokens.{skipped, next_place, IsLongest, settled, IsNext, Follow}
use Rattle.no_print.specs.Pieces.{Piece, written}
use Rattle.no_print.specs.Stand.{IsPiece, Stand}
use Rattle.no_round_trip.specs.Fits.{IsWell, Fits}
use Rattle.no_round_trip.specs.Lexed.{PartsAs}
use Rattle.no_round_trip.proofs.LexHeads.{ended}
use Rattle.no_round_trip.proofs.LexTaking.{Taken, taken}

skips : (gap bytes : List ℕ) → list_all is_blank gap ≡ true → skipped false bytes ≡ 0 → skipped false (gap ++ bytes) ≡ length gap
skips [] bytes blanks none = none
skips (b ∷ gap) bytes blanks none =
    let parts = and_parts (is_blank b) (list_all is_blank gap) blanks in
    let more = skips gap bytes parts.1 none in
    rw parts.0 (omega (arith, more))

-- what the tokens from a place on are
record From (text : List ℕ) (at : ℕ) (pieces : List Piece) : Type 0 where
  tokens : List Token
  end : ℕ
  follow : Follow text at tokens end
  done : length text ≤ next_place text end
  stand : Stand text tokens pieces

none_left : (text : List ℕ) (at : ℕ) → drop at text ≡ 10 ∷ [] → From text at []
none_left text at is = record {
  tokens = [];
  end = at;
  follow = refl;
  done = let s : skipped false (drop at text) ≡ 1 = ap (skipped false) is in let l : length text - at ≡ 1 = sym (length-drop at text) ∙ ap length is in omega (arith, s, l);
  stand = tt;
}

-- the token of a piece at its place
module _ (text : List ℕ) (at : ℕ) (p : Piece) (rest : List ℕ) (well : IsWell p) (t : Taken p.bytes rest p.kind) (is : drop at text ≡ p.gap ++ (p.bytes ++ rest)) where
  abbrev start : ℕ
  start = at + length p.gap

  abbrev token : Token
  token = record { kind = p.kind; start = start; end = start + length p.bytes }

  place_is : next_place text at ≡ start
  place_is = ap (λ n. at + n) (ap (skipped false) is ∙ skips p.gap (p.bytes ++ rest) well.blanks t.begins)

  bytes_at : drop start text ≡ p.bytes ++ rest
  bytes_at = sym (drop-drop (length p.gap) at text) ∙ ap (drop (length p.gap)) is ∙ drop-append_seam p.gap (p.bytes ++ rest)

  rest_at : drop token.end text ≡ rest
  rest_at = sym (drop-drop (length p.bytes) start text) ∙ ap (drop (length p.bytes)) bytes_at ∙ drop-append_seam p.bytes rest

  bytes_there : drop (next_place text at) text ≡ p.bytes ++ rest
  bytes_there = ap (λ n. drop n text) place_is ∙ bytes_at

  is_next : IsNext text at token
  is_next = record {
    kind = t.kind;
    size = t.size;
    some = t.some;
    longest = subst (λ ys. IsLongest ys t.kind t.size) (sym bytes_there) t.longest;
    settles = sym (t.settles start) ∙ ap (λ n. settled n t.kind t.size (p.bytes ++ rest)) (sym place_is) ∙ ap (settled (next_place text at) t.kind t.size) (sym bytes_there);
  }

  is_piece : IsPiece text token p
  is_piece =
      let size : token.end - token.start ≡ length p.bytes = omega arith in
      record { kind = refl; bytes = ap (λ n. take n (drop start text)) size ∙ ap (take (length p.bytes)) bytes_at ∙ take-append_seam p.bytes rest }

  one_more : (pieces : List Piece) → From text token.end pieces → From text at (p ∷ pieces)
  one_more pieces f = record { tokens = token ∷ f.tokens; end = f.end; follow = (is_next, f.follow); done = f.done; stand = (is_piece, f.stand) }

from : (text : List ℕ) (at : ℕ) (pieces : List Piece) → Fits pieces → drop at text ≡ ended pieces → From text at pieces
from text at [] fits is = none_left text at is
from text at (p ∷ pieces) fits is =
    let t = taken p.kind p.bytes pieces fits.0.spells fits.1 fits.2 in
    one_more text at p (ended pieces) fits.0 t is pieces (from text (token text at p (ended pieces) fits.0 t is).end pieces fits.2 (rest_at text at p (ended pieces) fits.0 t is))

is_ended : (pieces : List Piece) → written pieces ++ 10 ∷ [] ≡ ended pieces
is_ended [] = refl
is_ended (p ∷ pieces) =
    append_assoc p.gap (p.bytes ++ written pieces) (10 ∷ []) ∙ ap (λ ys. p.gap ++ ys) (append_assoc p.bytes (written pieces) (10 ∷ []) ∙ ap (λ ys. p.bytes ++ ys) (is_ended pieces))

pub parts_as : (pieces : List Piece) → Fits pieces → PartsAs (written pieces ++ 10 ∷ []) pieces
parts_as pieces fits =
    let f = from (written pieces ++ 10 ∷ []) 0 pieces fits (is_ended pieces) in
    record { tokens = f.tokens; parts = (f.end, f.follow, f.done); stand = f.stand }
