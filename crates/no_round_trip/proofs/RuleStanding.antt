-- Tokens that stand as pieces, part by part.
use Rattle.std.proofs.Common.{◌≡◌, ℕ, Bool, false, ◌&&◌, ◌==◌, List, [], ◌∷◌, ◌++◌, refl, ap, ◌∙◌}
use Rattle.std.specs.Prelude.{bytes_eq}
use Rattle.no_lex.specs.declared.token.Token.{Token}
use Rattle.no_lex.specs.declared.token.TokenKind.{TokenKind}
use Rattle.no_lex.specs.declared.token.TokenKind.TheVariants.{Word, Sign}
use Rattle.no_read_rules.specs.Rules.{next_is}
use Rattle.no_read_rules.specs.Spelled.{spelled, kind_number, is_kind, is_word, is_sign}
use Rattle.no_print.specs.Pieces.{Piece}
use Rattle.no_print.specs.Stand.{IsPiece, Stand}

-- ---- parts

pub record InParts (text : List ℕ) (tokens : List Token) (a b : List Piece) : Type 0 where
  pub front : List Token
  pub back : List Token
  pub parts : tokens ≡ front ++ back
  pub in_front : Stand text front a
  pub in_back : Stand text back b

-- tokens that stand as two lists of pieces part into two
pub stand_parts : (text : List ℕ) (tokens : List Token) (a b : List Piece) → Stand text tokens (a ++ b) → InParts text tokens a b
stand_parts text tokens [] b s = record { front = []; back = tokens; parts = refl; in_front = tt; in_back = s }
stand_parts text [] (p ∷ a) b s = absurd s
stand_parts text (t ∷ tokens) (p ∷ a) b s =
    let r = stand_parts text tokens a b s.1 in
    record { front = t ∷ r.front; back = r.back; parts = ap (λ l. t ∷ l) r.parts; in_front = (s.0, r.in_front); in_back = r.in_back }

pub stand_none : (text : List ℕ) (tokens : List Token) → Stand text tokens [] → tokens ≡ []
stand_none text [] s = refl
stand_none text (t ∷ tokens) s = absurd s

pub record IsAlone (text : List ℕ) (tokens : List Token) (p : Piece) : Type 0 where
  pub token : Token
  pub alone : tokens ≡ token ∷ []
  pub is : IsPiece text token p

pub stand_one : (text : List ℕ) (tokens : List Token) (p : Piece) → Stand text tokens (p ∷ []) → IsAlone text tokens p
stand_one text [] p s = absurd s
stand_one text (t ∷ []) p s = record { token = t; alone = refl; is = s.0 }
stand_one text (t ∷ u ∷ tokens) p s = absurd s.1

-- ---- the first of pieces

-- there is a first piece, of which this holds
abbrev pub Heads : (Piece → Type 0) → List Piece → Type 0
Heads P [] = ⊥
Heads P (p ∷ pieces) = P p

pub heads_front : (P : Piece → Type 0) (a b : List Piece) → Heads P a → Heads P (a ++ b)
heads_front P [] b h = absurd h
heads_front P (p ∷ a) b h = h

-- what a test of tokens says of a piece
abbrev pub Tests : List ℕ → (Token → Bool) → Bool → Piece → Type 0
Tests text test answer p = (token : Token) → IsPiece text token p → test token ≡ answer

-- what it says of the first token
abbrev pub Begins : List ℕ → (Token → Bool) → Bool → List Piece → Type 0
Begins text test answer pieces = (tokens : List Token) → Stand text tokens pieces → next_is test tokens ≡ answer

pub begins : (text : List ℕ) (test : Token → Bool) (answer : Bool) (pieces : List Piece) → Heads (Tests text test answer) pieces → Begins text test answer pieces
begins text test answer [] h tokens s = absurd h
begins text test answer (p ∷ pieces) h [] s = absurd s
begins text test answer (p ∷ pieces) h (t ∷ tokens) s = h t s.0

pub begins_none : (text : List ℕ) (test : Token → Bool) → Begins text test false []
begins_none text test [] s = refl
begins_none text test (t ∷ tokens) s = absurd s

-- ---- tests by a piece

abbrev pub piece_is_kind : TokenKind → Piece → Bool
piece_is_kind kind p = kind_number p.kind == kind_number kind

abbrev pub piece_is_word : List ℕ → Piece → Bool
piece_is_word word p = piece_is_kind Word p && bytes_eq p.bytes word

abbrev pub piece_is_sign : List ℕ → Piece → Bool
piece_is_sign sign p = piece_is_kind Sign p && bytes_eq p.bytes sign

pub kind_tested : (text : List ℕ) (kind : TokenKind) (p : Piece) (token : Token) → IsPiece text token p → is_kind kind token ≡ piece_is_kind kind p
kind_tested text kind p token h = ap (λ k. kind_number k == kind_number kind) h.kind

pub word_tested : (text word : List ℕ) (p : Piece) (token : Token) → IsPiece text token p → is_word text word token ≡ piece_is_word word p
word_tested text word p token h = ap (λ k. (kind_number k == kind_number Word) && bytes_eq (spelled text token) word) h.kind ∙ ap (λ bytes. (kind_number p.kind == kind_number Word) && bytes_eq bytes word) h.bytes

pub sign_tested : (text sign : List ℕ) (p : Piece) (token : Token) → IsPiece text token p → is_sign text sign token ≡ piece_is_sign sign p
sign_tested text sign p token h = ap (λ k. (kind_number k == kind_number Sign) && bytes_eq (spelled text token) sign) h.kind ∙ ap (λ bytes. (kind_number p.kind == kind_number Sign) && bytes_eq bytes sign) h.bytes
